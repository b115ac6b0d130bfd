-- What is written for `norm`, and what it means for the schema.
use Rattle.std.specs.Prelude.{◌≡◌, ℕ, List, Option, Some, None}
use Rattle.std.specs.Io.KnownBytes.{Appends}
use Rattle.documents.specs.Json.{Json}
use Rattle.js_outside.specs.Told.{Files}
use Rattle.js_input.specs.FileReading.{IsSchemaFile}
use Rattle.js_input.specs.ToldTwice.{AreFiles}
use Rattle.js_commands.specs.NormOutcome.{IsListed}
use Rattle.js_top.specs.Names.{norm_name}
use Rattle.js_top.specs.Judging.{RefusesSchema}
use Rattle.js_top.specs.declared.status.Status.{Status}
use Rattle.js_top.specs.declared.status.Status.TheVariants as S

-- the words name a schema, which is read as this value
pub record IsNamedSchema (told : Option Files) (words : List (List ℕ)) (j : Json) : Type 0 where
  pub name : List ℕ
  pub named : norm_name words ≡ Some name
  pub files : Files
  pub are_files : AreFiles told files files
  pub is_schema : IsSchemaFile files name j

-- the text of the table of a schema that is read, of which position 0 is validity
abbrev pub WritesTable : Json → Option (List ℕ) → Option (List ℕ) → Type 0
WritesTable j old new = (text : List ℕ) × Appends old new text × IsListed j text

-- the table of the schema that the words name is written
abbrev pub WritesNamedTable : Option Files → List (List ℕ) → Option (List ℕ) → Option (List ℕ) → Type 0
WritesNamedTable told words old new = (j : Json) × IsNamedSchema told words j × WritesTable j old new

-- where files are known: of every schema that the words name
abbrev pub WritesListing : Option Files → List (List ℕ) → Option (List ℕ) → Option (List ℕ) → Status → Type 0
WritesListing None words old new status = Unit {0}
WritesListing (Some files) words old new status =
    (j : Json) → IsNamedSchema (Some files) words j → WritesTable j old new × (status ≡ S.Done)

-- the schema is refused
pub record IsNormRefusal (told : Option Files) (words : List (List ℕ)) (text : List ℕ) : Type 0 where
  pub name : List ℕ
  pub named : norm_name words ≡ Some name
  pub files : Files
  pub are_files : AreFiles told files files
  pub refusal : RefusesSchema files name text

abbrev pub WritesNormRefusal : Option Files → List (List ℕ) → Option (List ℕ) → Option (List ℕ) → Type 0
WritesNormRefusal told words old new = (text : List ℕ) × Appends old new text × IsNormRefusal told words text
