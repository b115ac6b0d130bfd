-- What is said of the entries of a schema is said of its value.
use Rattle.std.proofs.Common.{◌≡◌, List, true, Ok, string_bytes, ap, sym, ◌∙◌, subst}
use Rattle.documents.specs.Json.{Json}
use Rattle.documents.specs.WellFormed.{is_json}
use Rattle.schemas.specs.Entry.{Entry}
use Rattle.schemas.specs.Entries.{read}
use Rattle.js_keywords.specs.Reading.{rules}
use Rattle.js_input.specs.SchemaReading.{Read, Refused, IsReadingOfResult}
use Rattle.js_input.specs.Saying.{EntriesSay, ValueSays}
use Rattle.js_input.specs.declared.schema.SchemaInput.{SchemaInput}
use Rattle.js_input.specs.declared.schema.SchemaInput.TheVariants as S

-- an answer that is right for the entries that a value is read as is right for the value
pub ValueSays-entries : (j : Json) (es : List Entry) (input : SchemaInput) → is_json j ≡ true → read rules j ≡ Ok es
    → EntriesSay es input → ValueSays j input
ValueSays-entries j es (S.Read s) w e says = (
  subst (λ o. IsReadingOfResult j o (Read j)) (sym e) (says.0 j),
  record { well_formed = w; entries = e ∙ ap Ok (sym says.1) },
)
ValueSays-entries j es (S.Refused words) w e says =
    subst (λ o. IsReadingOfResult j o (Refused (string_bytes words))) (sym e) (says j)
