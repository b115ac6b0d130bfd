-- What is written for `valid`, and what it means for the schema and the document.
use Rattle.std.specs.Prelude.{◌≡◌, ◌⊎◌, ℕ, List, ◌++◌, Bool, true, false, Option, Some, None, codes}
use Rattle.std.specs.Io.KnownBytes.{Appends}
use Rattle.documents.specs.Document.{Document}
use Rattle.documents.specs.Json.{Json}
use Rattle.draft06.specs.Validity.{valid}
use Rattle.js_keywords.specs.Reading.{rules}
use Rattle.js_outside.specs.Told.{Files}
use Rattle.js_input.specs.FileReading.{IsSchemaRefusal}
use Rattle.js_input.specs.ToldTwice.{AreFiles}
use Rattle.js_commands.specs.ValidMeaning.{AreInputs, IsRefusedAfterSchema}
use Rattle.js_top.specs.Names.{valid_names}
use Rattle.js_report.specs.Lines.{line}
use Rattle.js_top.specs.declared.status.Status.{Status}
use Rattle.js_top.specs.declared.status.Status.TheVariants as S

-- the word for a document that is valid, and the one for another
abbrev pub word_of : Bool → List ℕ
word_of true = codes "valid"
word_of false = codes "invalid"

abbrev pub status_of : Bool → Status
status_of true = S.Done
status_of false = S.Other

-- the words name a schema and a document, which are read as these values
pub record AreJudged (told : Option Files) (words : List (List ℕ)) (j : Json) (d : Document) : Type 0 where
  pub schema : List ℕ
  pub document : List ℕ
  pub named : valid_names words ≡ Some (schema, document)
  pub are : AreInputs told schema document j d

-- the word alone in its line, and for the schema and the document that the words name validity is b
abbrev pub WritesJudgement : Option Files → List (List ℕ) → Option (List ℕ) → Option (List ℕ) → Bool → Type 0
WritesJudgement told words old new b =
    Appends old new (line (word_of b))
    × ((j : Json) × (d : Document) × AreJudged told words j d × (valid rules j d ≡ b))

-- where files are known: for the schema and the document that the words name the word and the status are those of
-- validity
abbrev pub WritesDecision : Option Files → List (List ℕ) → Option (List ℕ) → Option (List ℕ) → Status → Type 0
WritesDecision None words old new status = Unit {0}
WritesDecision (Some files) words old new status =
    (j : Json) (d : Document) → AreJudged (Some files) words j d
    → Appends old new (line (word_of (valid rules j d))) × (status ≡ status_of (valid rules j d))

-- the schema is refused, with this line
abbrev pub RefusesSchema : Files → (name text : List ℕ) → Type 0
RefusesSchema files name text =
    (words : List ℕ) × IsSchemaRefusal files name words × (line (codes "refused first " ++ words) ≡ text)

-- the schema is read and the document is refused, with this line
abbrev pub RefusesDocument : Files → Files → (schema document text : List ℕ) → Type 0
RefusesDocument files later schema document text =
    (words : List ℕ) × IsRefusedAfterSchema files later schema document words
    × (line (codes "refused document " ++ words) ≡ text)

-- the first refusal in the order of work
pub record IsJudgedRefusal (told : Option Files) (words : List (List ℕ)) (text : List ℕ) : Type 0 where
  pub schema : List ℕ
  pub document : List ℕ
  pub named : valid_names words ≡ Some (schema, document)
  pub files : Files
  pub later : Files
  pub are_files : AreFiles told files later
  pub refusal : RefusesSchema files schema text ⊎ RefusesDocument files later schema document text

abbrev pub WritesJudgedRefusal : Option Files → List (List ℕ) → Option (List ℕ) → Option (List ℕ) → Type 0
WritesJudgedRefusal told words old new = (text : List ℕ) × Appends old new text × IsJudgedRefusal told words text
