-- What the file of a name is read as.
use Rattle.std.specs.Prelude.{◌≡◌, ℕ, List, Some, encode_utf8_all}
use Rattle.documents.specs.Document.{Document}
use Rattle.documents.specs.Json.{Json}
use Rattle.js_outside.specs.Told.{Files}
use Rattle.js_input.specs.SchemaReading.{Refused, Read, IsSchemaReading}
use Rattle.js_input.specs.DocumentReading.{RefusedDocument, ReadDocument, IsDocumentReading}

-- the file of that name is a schema, with this value
pub record IsSchemaFile (files : Files) (name : List ℕ) (j : Json) : Type 0 where
  pub bytes : List ℕ
  pub told : files (encode_utf8_all name) ≡ Some bytes
  pub is_read : IsSchemaReading bytes (Read j)

-- the file of that name is refused as a schema, with these words
pub record IsSchemaRefusal (files : Files) (name words : List ℕ) : Type 0 where
  pub bytes : List ℕ
  pub told : files (encode_utf8_all name) ≡ Some bytes
  pub is_refused : IsSchemaReading bytes (Refused words)

-- the file of that name is this document
pub record IsDocumentFile (files : Files) (name : List ℕ) (d : Document) : Type 0 where
  pub bytes : List ℕ
  pub told : files (encode_utf8_all name) ≡ Some bytes
  pub is_read : IsDocumentReading bytes (ReadDocument d)

-- the file of that name is refused as a document, with these words
pub record IsDocumentRefusal (files : Files) (name words : List ℕ) : Type 0 where
  pub bytes : List ℕ
  pub told : files (encode_utf8_all name) ≡ Some bytes
  pub is_refused : IsDocumentReading bytes (RefusedDocument words)
