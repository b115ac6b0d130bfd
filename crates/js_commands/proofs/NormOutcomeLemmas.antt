-- What a file comes to, from what it was read as.
use Rattle.std.proofs.Common.{◌≡◌, ℕ, List, Option, Ok, true, encode_utf8_all, sym, subst}
use Rattle.documents.specs.Json.{Json}
use Rattle.documents.specs.WellFormed.{is_json}
use Rattle.schemas.specs.Entry.{Entry}
use Rattle.schemas.specs.Entries.{read}
use Rattle.js_keywords.specs.Reading.{rules}
use Rattle.js_outside.specs.Told.{Files}
use Rattle.js_report.specs.WholeFile.{HasBytes}
use Rattle.js_input.specs.SchemaReading.{Reading, Read, IsSchemaReading}
use Rattle.js_commands.proofs.FileLemmas.{HaveFile-has}
use Rattle.js_commands.specs.NormOutcome.{Outcome, Listed, table_text, MeansValidity, IsOutcomeOfReading, IsOutcomeOf, IsListing}

-- a file with these bytes
pub listing-bytes : (told : Option Files) (name bytes : List ℕ) (r : Reading) (o : Outcome)
    → HasBytes told (encode_utf8_all name) bytes → IsSchemaReading bytes r → IsOutcomeOfReading r o
    → IsListing told name o
listing-bytes told name bytes r o has is of =
    let at = HaveFile-has told name bytes has in
    record {
      files = at.files;
      are_files = at.are_files;
      outcome = subst (λ b. IsOutcomeOf b o) (sym at.has) (r, is, of);
    }

-- a schema that is read
pub listing-read : (told : Option Files) (name bytes text : List ℕ) (j : Json) (es : List Entry)
    → HasBytes told (encode_utf8_all name) bytes → IsSchemaReading bytes (Read j) → is_json j ≡ true
    → read rules j ≡ Ok es → text ≡ table_text es → MeansValidity es → IsListing told name (Listed text)
listing-read told name bytes text j es has is well reads written means =
    listing-bytes told name bytes (Read j) (Listed text) has is
    (record { entries = es; are_read = reads; written = sym written; means = means j well reads })
