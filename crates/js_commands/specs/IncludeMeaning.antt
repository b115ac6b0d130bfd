-- What an outcome means for the values of the two schemas.
use Rattle.std.specs.Prelude.{◌≡◌, ◌≤◌, ℕ, List, length, false, Option, Some, None}
use Rattle.documents.specs.Json.{Json, boolean}
use Rattle.draft06.specs.Validity.{Included}
use Rattle.goals.specs.Signed.{Signed}
use Rattle.alternatives.specs.Limit.{LimitKind}
use Rattle.verdicts.specs.Verdict.{Accepted}
use Rattle.js_keywords.specs.Reading.{rules}
use Rattle.js_outside.specs.Told.{Files}
use Rattle.js_input.specs.FileReading.{IsSchemaFile, IsSchemaRefusal}
use Rattle.js_input.specs.ToldTwice.{AreFiles}
use Rattle.js_certificate.specs.FileVerdicts.{longest_file}
use Rattle.js_inclusion.specs.Meaning.{AreSeparating, StopsSearch, PassesCount}
use Rattle.js_commands.specs.ReadEntries.{entries_read}
use Rattle.js_commands.specs.CheckOutcome.{judgement_of}
use Rattle.js_commands.specs.IncludeOutcome as A
use Rattle.js_commands.specs.IncludeOutcome.{Answer, Outcome, Decided, answer}

-- the value that comes second: that of the file of that name, which is a schema, or `false` where there is none
abbrev pub IsSecond : Files → Option (List ℕ) → Json → Type 0
IsSecond files None b = b ≡ boolean false
IsSecond files (Some name) b = IsSchemaFile files name b

-- the files of these names are schemas, with these values
pub record AreSchemas (told : Option Files) (first : List ℕ) (second : Option (List ℕ)) (a b : Json) : Type 0 where
  pub files : Files
  pub later : Files
  pub are_files : AreFiles told files later
  pub is_first : IsSchemaFile files first a
  pub is_second : IsSecond later second b

-- what is found of two values
abbrev pub answer_of : Json → Json → Answer
answer_of a b = answer (entries_read a) (entries_read b)

-- bytes that `check` accepts, of which there are no more than a file may have; and every document that is valid for the
-- first value is valid for the second
pub record IsCertificate (a b : Json) (bytes : List ℕ) : Type 0 where
  pub accepted : judgement_of a b bytes ≡ Accepted
  pub fits : length bytes ≤ longest_file
  pub included : Included rules a b

-- the search stops at a limit, and what this counts is over its number
pub record IsPassed (a b : Json) (kind : LimitKind) (goal : Option (List Signed)) : Type 0 where
  pub stops : StopsSearch (entries_read a) (entries_read b) kind goal
  pub counted : PassesCount (entries_read a) (entries_read b) kind goal

-- what an answer means for two values
abbrev pub ValuesTell : Json → Json → Answer → Type 0
ValuesTell a b (A.Document ps i) = AreSeparating a b ps i
ValuesTell a b (A.Certificate bytes) = IsCertificate a b bytes
ValuesTell a b (A.Limit k o) = IsPassed a b k o

-- both are schemas, this is what is found of them, and what it means for them
pub record IsDecided (told : Option Files) (first : List ℕ) (second : Option (List ℕ)) (x : Answer) : Type 0 where
  pub a : Json
  pub b : Json
  pub are : AreSchemas told first second a b
  pub is : answer_of a b ≡ x
  pub tells : ValuesTell a b x

abbrev pub MeansFor : Option Files → List ℕ → Option (List ℕ) → Outcome → Type 0
MeansFor told first second (Decided x) = IsDecided told first second x
MeansFor told first second _ = Unit {0}

-- the first file is refused: it is no schema
abbrev pub IsFirstRefusal : Files → (first words : List ℕ) → Type 0
IsFirstRefusal files first words = IsSchemaRefusal files first words

-- the second file is refused: the first is a schema, and the second is none
abbrev pub IsSecondRefusal : Files → Files → (first : List ℕ) → (second : Option (List ℕ)) → (words : List ℕ) → Type 0
IsSecondRefusal files later first None words = ⊥
IsSecondRefusal files later first (Some name) words =
    (a : Json) × IsSchemaFile files first a × IsSchemaRefusal later name words
