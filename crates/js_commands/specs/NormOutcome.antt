-- What a schema file comes to as the text of its core table.
use Rattle.std.specs.Prelude.{◌≡◌, ℕ, List, Option, Some, None, Ok, true, encode_utf8_all}
use Rattle.documents.specs.Document.{Document, is_document}
use Rattle.documents.specs.Json.{Json}
use Rattle.documents.specs.WellFormed.{is_json}
use Rattle.schemas.specs.Entry.{Entry}
use Rattle.schemas.specs.Entries.{read}
use Rattle.draft06.specs.Validity.{valid}
use Rattle.positions.specs.Holds.{holds}
use Rattle.normal_forms.specs.NormalForm.{table_of}
use Rattle.js_keywords.specs.Reading.{rules}
use Rattle.js_normal.specs.PatternTrees.{tree_of}
use Rattle.js_core_text.specs.CoreText.{core_text}
use Rattle.js_outside.specs.Told.{Files}
use Rattle.js_input.specs.SchemaReading.{Reading, Refused, Read, IsSchemaReading}
use Rattle.js_input.specs.ToldTwice.{AreFiles}

pub data Outcome : Type 0 where
  -- the text of its table
  Listed : List ℕ → Outcome
  -- the words of its refusal after its role
  SchemaRefused : List ℕ → Outcome
  -- the file isn't there
  ReadFault : Outcome

-- the text of the table of some entries
abbrev pub table_text : List Entry → List ℕ
table_text es = core_text (table_of tree_of es)

-- position 0 of the table holds of the documents that are valid for the value that is read as the entries
abbrev pub MeansValidity : List Entry → Type 0
MeansValidity es =
    (j : Json) → is_json j ≡ true → read rules j ≡ Ok es → (J : Document) → is_document J ≡ true
    → holds (table_of tree_of es) 0 J ≡ valid rules j J

-- the table of a value that is read, with what its first position means
pub record IsListed (j : Json) (text : List ℕ) : Type 0 where
  pub entries : List Entry
  pub are_read : read rules j ≡ Ok entries
  pub written : table_text entries ≡ text
  pub means : (J : Document) → is_document J ≡ true → holds (table_of tree_of entries) 0 J ≡ valid rules j J

abbrev pub IsOutcomeOfReading : Reading → Outcome → Type 0
IsOutcomeOfReading (Read j) (Listed text) = IsListed j text
IsOutcomeOfReading (Refused words) o = o ≡ SchemaRefused words
IsOutcomeOfReading (Read j) _ = ⊥

-- what a file comes to, by its bytes where it is there
abbrev pub IsOutcomeOf : Option (List ℕ) → Outcome → Type 0
IsOutcomeOf None o = o ≡ ReadFault
IsOutcomeOf (Some bytes) o = (r : Reading) × IsSchemaReading bytes r × IsOutcomeOfReading r o

-- what the file of this name comes to
pub record IsListing (told : Option Files) (name : List ℕ) (o : Outcome) : Type 0 where
  pub files : Files
  pub are_files : AreFiles told files files
  pub outcome : IsOutcomeOf (files (encode_utf8_all name)) o
