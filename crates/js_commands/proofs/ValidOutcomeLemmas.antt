-- What files come to, from what each was read as.
use Rattle.std.proofs.Common.{◌≡◌, ℕ, List, Bool, true, false, Option, encode_utf8_all, refl, sym, ◌∙◌, subst}
use Rattle.documents.specs.Json.{Json}
use Rattle.js_outside.specs.Told.{Files}
use Rattle.js_report.specs.WholeFile.{HasBytes}
use Rattle.js_input.specs.SchemaReading.{Refused, Read, IsSchemaReading}
use Rattle.js_input.specs.DocumentReading.{DocumentReading, IsDocumentReading}
use Rattle.js_commands.proofs.FileLemmas.{HaveFile-has, HaveFiles-has}
use Rattle.js_commands.specs.ValidOutcome as O
use Rattle.js_commands.specs.ValidOutcome.{Outcome, of_test, of_document, IsOutcomeOfDocument, IsOutcomeOf, IsValidation}
use Rattle.js_commands.specs.ValidSaying.{outcome_of, ValidationSays}
use Rattle.js_commands.specs.declared.valid.Validation.{Validation}
use Rattle.js_commands.specs.declared.valid.Validation.TheVariants as V

-- a schema that is refused, whatever the document is
pub validation-schema_refused : (told : Option Files) (schema document bytes words : List ℕ)
    → HasBytes told (encode_utf8_all schema) bytes → IsSchemaReading bytes (Refused words)
    → IsValidation told schema document (O.SchemaRefused words)
validation-schema_refused told schema document bytes words has is =
    let at = HaveFile-has told schema bytes has in
    record {
      files = at.files;
      later = at.files;
      are_files = at.are_files;
      outcome = subst (λ b. IsOutcomeOf b (at.files (encode_utf8_all document)) (O.SchemaRefused words)) (sym at.has)
          (Refused words, is, refl);
    }

-- a schema that is read, and a document file with these bytes
pub validation-read : (told : Option Files) (schema document first second : List ℕ) (j : Json) (r : DocumentReading)
    (o : Outcome) → HasBytes told (encode_utf8_all schema) first → HasBytes told (encode_utf8_all document) second
    → IsSchemaReading first (Read j) → IsDocumentReading second r → of_document j r ≡ o
    → IsValidation told schema document o
validation-read told schema document first second j r o f g is reads e =
    let at = HaveFiles-has told schema document first second f g in
    record {
      files = at.files;
      later = at.later;
      are_files = at.are_files;
      outcome = subst (λ b. IsOutcomeOf b (at.later (encode_utf8_all document)) o) (sym at.has_first)
          (Read j, is, subst (λ b. IsOutcomeOfDocument j b o) (sym at.has_second) (r, reads, e));
    }

-- a decided document
pub says-judged : (told : Option Files) (schema document : List ℕ) (before mid after : ℕ) (v : Validation) (b : Bool)
    → mid ≡ before → after ≡ mid → outcome_of v ≡ of_test b → IsValidation told schema document (of_test b)
    → ValidationSays told schema document before after v
says-judged told schema document before mid after V.Valid b m n e is =
    (n ∙ m, subst (IsValidation told schema document) (sym e) is)
says-judged told schema document before mid after V.Invalid b m n e is =
    (n ∙ m, subst (IsValidation told schema document) (sym e) is)
says-judged told schema document before mid after (V.SchemaRefused words) b m n e is =
    (n ∙ m, subst (IsValidation told schema document) (sym e) is)
says-judged told schema document before mid after (V.DocumentRefused words) b m n e is =
    (n ∙ m, subst (IsValidation told schema document) (sym e) is)
says-judged told schema document before mid after V.ReadFault true m n e is = cc
says-judged told schema document before mid after V.ReadFault false m n e is = cc
