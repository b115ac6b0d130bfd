-- What an outcome means for the values of the two files.
use Rattle.std.specs.Prelude.{ℕ, List, Option}
use Rattle.documents.specs.Document.{Document}
use Rattle.documents.specs.Json.{Json}
use Rattle.js_outside.specs.Told.{Files}
use Rattle.js_input.specs.FileReading.{IsSchemaFile, IsDocumentFile, IsDocumentRefusal}
use Rattle.js_input.specs.ToldTwice.{AreFiles}

-- the files of these names are a schema and a document
pub record AreInputs (told : Option Files) (schema document : List ℕ) (j : Json) (d : Document) : Type 0 where
  pub files : Files
  pub later : Files
  pub are_files : AreFiles told files later
  pub is_schema : IsSchemaFile files schema j
  pub is_document : IsDocumentFile later document d

-- the schema is read, and the document is refused with these words
pub record IsRefusedAfterSchema (files later : Files) (schema document words : List ℕ) : Type 0 where
  pub value : Json
  pub is_schema : IsSchemaFile files schema value
  pub is_refused : IsDocumentRefusal later document words
