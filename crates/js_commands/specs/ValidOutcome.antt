-- What a schema file and a document file come to.
use Rattle.std.specs.Prelude.{◌≡◌, ℕ, List, Bool, true, false, Option, Some, None, encode_utf8_all}
use Rattle.documents.specs.Json.{Json}
use Rattle.draft06.specs.Validity.{valid}
use Rattle.js_keywords.specs.Reading.{rules}
use Rattle.js_outside.specs.Told.{Files}
use Rattle.js_input.specs.SchemaReading.{Reading, Refused, Read, IsSchemaReading}
use Rattle.js_input.specs.DocumentReading.{DocumentReading, RefusedDocument, ReadDocument, IsDocumentReading}
use Rattle.js_input.specs.ToldTwice.{AreFiles}

pub data Outcome : Type 0 where
  Valid : Outcome
  Invalid : Outcome
  -- the words of a refusal after the file's role
  SchemaRefused : List ℕ → Outcome
  DocumentRefused : List ℕ → Outcome
  -- a file isn't there
  ReadFault : Outcome

abbrev pub of_test : Bool → Outcome
of_test true = Valid
of_test false = Invalid

abbrev pub of_document : Json → DocumentReading → Outcome
of_document j (ReadDocument d) = of_test (valid rules j d)
of_document j (RefusedDocument words) = DocumentRefused words

-- what a document file comes to, by its bytes where it is there: there is one reading of them
abbrev pub IsOutcomeOfDocument : Json → Option (List ℕ) → Outcome → Type 0
IsOutcomeOfDocument j None o = o ≡ ReadFault
IsOutcomeOfDocument j (Some bytes) o = (r : DocumentReading) × IsDocumentReading bytes r × (of_document j r ≡ o)

-- the document is looked at only where the schema is read
abbrev pub IsOutcomeOfSchema : (document : Option (List ℕ)) → Reading → Outcome → Type 0
IsOutcomeOfSchema document (Refused words) o = o ≡ SchemaRefused words
IsOutcomeOfSchema document (Read j) o = IsOutcomeOfDocument j document o

-- what files come to, by their bytes where they are there
abbrev pub IsOutcomeOf : (schema document : Option (List ℕ)) → Outcome → Type 0
IsOutcomeOf None document o = o ≡ ReadFault
IsOutcomeOf (Some bytes) document o = (r : Reading) × IsSchemaReading bytes r × IsOutcomeOfSchema document r o

-- what the files of these names come to; `later` are the files when the second is read
pub record IsValidation (told : Option Files) (schema document : List ℕ) (o : Outcome) : Type 0 where
  pub files : Files
  pub later : Files
  pub are_files : AreFiles told files later
  pub outcome : IsOutcomeOf (files (encode_utf8_all schema)) (later (encode_utf8_all document)) o
