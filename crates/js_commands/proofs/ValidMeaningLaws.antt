-- What an outcome means for the values of the two files.
use Rattle.std.proofs.Common.{◌≡◌, ℕ, List, Bool, true, false, Option, Some, None, encode_utf8_all, refl, ap, sym, ◌∙◌, subst}
use Rattle.documents.specs.Document.{Document}
use Rattle.documents.specs.Json.{Json}
use Rattle.draft06.specs.Validity.{valid}
use Rattle.js_keywords.specs.Reading.{rules}
use Rattle.js_outside.specs.Told.{Files}
use Rattle.js_input.specs.SchemaReading.{Refused, Read, IsSchemaReading}
use Rattle.js_input.specs.DocumentReading.{DocumentReading, RefusedDocument, ReadDocument, IsDocumentReading}
use Rattle.js_input.specs.FileReading.{IsSchemaFile, IsSchemaRefusal}
use Rattle.js_input.specs.ToldTwice.{AreFiles}
use Rattle.js_input.proofs.SchemaReadingLemmas.{IsSchemaReading-one}
use Rattle.js_input.proofs.PartsReadingLemmas.{IsDocumentReading-one}
use Rattle.js_commands.specs.ValidOutcome.{Outcome, Valid, Invalid, SchemaRefused, DocumentRefused, of_test, of_document, IsOutcomeOfDocument, IsOutcomeOfSchema, IsOutcomeOf, IsValidation}
use Rattle.js_commands.specs.ValidMeaning.{AreInputs, IsRefusedAfterSchema}

-- which outcome it is

abbrev pub is_decided : Outcome → Bool
is_decided Valid = true
is_decided Invalid = true
is_decided _ = false

abbrev is_schema_refused : Outcome → Bool
is_schema_refused (SchemaRefused words) = true
is_schema_refused _ = false

abbrev is_document_refused : Outcome → Bool
is_document_refused (DocumentRefused words) = true
is_document_refused _ = false

pub is_decided-of_test : (b : Bool) → is_decided (of_test b) ≡ true
is_decided-of_test true = refl
is_decided-of_test false = refl

unrefused-of_test : (b : Bool) → is_document_refused (of_test b) ≡ false
unrefused-of_test true = refl
unrefused-of_test false = refl

unrefused-schema : (b : Bool) → is_schema_refused (of_test b) ≡ false
unrefused-schema true = refl
unrefused-schema false = refl

abbrev is_valid : Outcome → Bool
is_valid Valid = true
is_valid _ = false

is_valid-of_test : (b : Bool) → is_valid (of_test b) ≡ b
is_valid-of_test true = refl
is_valid-of_test false = refl

of_test-one : (a b : Bool) → of_test a ≡ of_test b → a ≡ b
of_test-one a b e = sym (is_valid-of_test a) ∙ ap is_valid e ∙ is_valid-of_test b

-- both files are read, and this is the verdict
pub record IsDecided (told : Option Files) (schema document : List ℕ) (b : Bool) : Type 0 where
  pub value : Json
  pub judged : Document
  pub are : AreInputs told schema document value judged
  pub verdict : valid rules value judged ≡ b

module _ (told : Option Files) (schema document : List ℕ) (files later : Files) (ok : AreFiles told files later)
    (b : Bool) where
  decided_second : (j : Json) → IsSchemaFile files schema j → (o : Option (List ℕ))
      → later (encode_utf8_all document) ≡ o
      → IsOutcomeOfDocument j o (of_test b) → IsDecided told schema document b
  decided_second j is None t e = let wrong = sym (is_decided-of_test b) ∙ ap is_decided e in cc
  decided_second j is (Some bytes) t (RefusedDocument words, h, e) =
      let wrong = ap is_decided e ∙ is_decided-of_test b in cc
  decided_second j is (Some bytes) t (ReadDocument d, h, e) =
      record {
        value = j;
        judged = d;
        are = record {
          files = files;
          later = later;
          are_files = ok;
          is_schema = is;
          is_document = record { bytes = bytes; told = t; is_read = h };
        };
        verdict = of_test-one (valid rules j d) b e;
      }

  decided_first : (o : Option (List ℕ)) → files (encode_utf8_all schema) ≡ o
      → IsOutcomeOf o (later (encode_utf8_all document)) (of_test b) → IsDecided told schema document b
  decided_first None t e = let wrong = sym (is_decided-of_test b) ∙ ap is_decided e in cc
  decided_first (Some bytes) t (Refused words, is, e) =
      let wrong = sym (is_decided-of_test b) ∙ ap is_decided e in cc
  decided_first (Some bytes) t (Read j, is, e) =
      decided_second j (record { bytes = bytes; told = t; is_read = is }) (later (encode_utf8_all document)) refl e

-- the document is valid for the schema exactly where the outcome says so
pub validation-decided : (told : Option Files) (schema document : List ℕ) (b : Bool)
    → IsValidation told schema document (of_test b) → IsDecided told schema document b
validation-decided told schema document b is =
    decided_first told schema document is.files is.later is.are_files b (is.files (encode_utf8_all schema)) refl
    is.outcome

-- and for a schema and a document of files that are known it says one of the two
told_outcome : (schema document : List ℕ) (x y : Option (List ℕ)) (first second : List ℕ) (j : Json) (d : Document)
    (o : Outcome)
    → x ≡ Some first → y ≡ Some second → IsSchemaReading first (Read j) → IsDocumentReading second (ReadDocument d)
    → IsOutcomeOf x y o
    → o ≡ of_test (valid rules j d)
told_outcome schema document x y first second j d o e f is h outcome =
    let (r, reads, more) = subst (λ t. IsOutcomeOf t y o) e outcome in
    let of = subst (λ r. IsOutcomeOfSchema y r o) (IsSchemaReading-one first r (Read j) reads is) more in
    let (s, also, same) = subst (λ t. IsOutcomeOfDocument j t o) f of in
    sym same ∙ ap (of_document j) (IsDocumentReading-one second s (ReadDocument d) also h)

pub told-decided : (told : Files) (schema document : List ℕ) (o : Outcome) (j : Json) (d : Document)
    → IsValidation (Some told) schema document o → AreInputs (Some told) schema document j d
    → o ≡ of_test (valid rules j d)
told-decided told schema document o j d is are =
    let first : is.files ≡ are.files = is.are_files.0 ∙ sym are.are_files.0 in
    let second : is.later ≡ are.later = is.are_files.1 ∙ sym are.are_files.1 in
    told_outcome schema document (is.files (encode_utf8_all schema)) (is.later (encode_utf8_all document))
    are.is_schema.bytes
    are.is_document.bytes j d o (ap (λ f. f (encode_utf8_all schema)) first ∙ are.is_schema.told)
    (ap (λ f. f (encode_utf8_all document)) second ∙ are.is_document.told) are.is_schema.is_read
    are.is_document.is_read
    is.outcome

-- refusals

module _ (files later : Files) (schema document : List ℕ) (words : List ℕ) where
  schema_first : (o : Option (List ℕ)) → files (encode_utf8_all schema) ≡ o
      → IsOutcomeOf o (later (encode_utf8_all document)) (SchemaRefused words) → IsSchemaRefusal files schema words
  schema_first None t e = cc
  schema_first (Some bytes) t (Refused ws, is, e) =
      let same : ws ≡ words = cc in
      record { bytes = bytes; told = t; is_refused = subst (λ v. IsSchemaReading bytes (Refused v)) same is }
  schema_first (Some bytes) t (Read j, is, e) = go (later (encode_utf8_all document)) e where
    of_reading : (r : DocumentReading) → of_document j r ≡ SchemaRefused words → IsSchemaRefusal files schema words
    of_reading (RefusedDocument ws) e = cc
    of_reading (ReadDocument d) e =
        let wrong = sym (unrefused-schema (valid rules j d)) ∙ ap is_schema_refused e in cc

    go : (o : Option (List ℕ)) → IsOutcomeOfDocument j o (SchemaRefused words) → IsSchemaRefusal files schema words
    go None e = cc
    go (Some more) (r, h, e) = of_reading r e

  document_second : (j : Json) → IsSchemaFile files schema j → (o : Option (List ℕ))
      → later (encode_utf8_all document) ≡ o
      → IsOutcomeOfDocument j o (DocumentRefused words) → IsRefusedAfterSchema files later schema document words
  document_second j is None t e = cc
  document_second j is (Some bytes) t (RefusedDocument ws, h, e) =
      let same : ws ≡ words = cc in
      record {
        value = j;
        is_schema = is;
        is_refused = record {
          bytes = bytes;
          told = t;
          is_refused = subst (λ v. IsDocumentReading bytes (RefusedDocument v)) same h;
        };
      }
  document_second j is (Some bytes) t (ReadDocument d, h, e) =
      let wrong = sym (unrefused-of_test (valid rules j d)) ∙ ap is_document_refused e in cc

  document_first : (o : Option (List ℕ)) → files (encode_utf8_all schema) ≡ o
      → IsOutcomeOf o (later (encode_utf8_all document)) (DocumentRefused words)
      → IsRefusedAfterSchema files later schema document words
  document_first None t e = cc
  document_first (Some bytes) t (Refused ws, is, e) = cc
  document_first (Some bytes) t (Read j, is, e) =
      document_second j (record { bytes = bytes; told = t; is_read = is }) (later (encode_utf8_all document)) refl e

-- the schema is refused with these words
pub schema-refusal : (told : Option Files) (schema document words : List ℕ)
    → (is : IsValidation told schema document (SchemaRefused words)) → IsSchemaRefusal is.files schema words
schema-refusal told schema document words is =
    schema_first is.files is.later schema document words (is.files (encode_utf8_all schema)) refl is.outcome

-- or it is read, and the document is refused
pub document-refusal : (told : Option Files) (schema document words : List ℕ)
    → (is : IsValidation told schema document (DocumentRefused words))
    → IsRefusedAfterSchema is.files is.later schema document words
document-refusal told schema document words is =
    document_first is.files is.later schema document words (is.files (encode_utf8_all schema)) refl is.outcome
