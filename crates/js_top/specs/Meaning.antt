-- What the document, the certificate, the limit or the refusal of a report means.
use Rattle.std.specs.Prelude.{◌≡◌, ◌⊎◌, ℕ, List, ◌++◌, true, false, Option, Some, None, codes}
use Rattle.documents.specs.Document.{Document, is_document}
use Rattle.documents.specs.Json.{Json, boolean}
use Rattle.draft06.specs.Validity.{valid, Separates}
use Rattle.goals.specs.Signed.{Signed}
use Rattle.alternatives.specs.Limit.{LimitKind}
use Rattle.verdicts.specs.Verdict.{Accepted}
use Rattle.js_outside.specs.Told.{Files}
use Rattle.js_keywords.specs.Reading.{rules}
use Rattle.js_input.specs.FileReading.{IsSchemaFile}
use Rattle.js_input.specs.ToldTwice.{AreFiles}
use Rattle.js_commands.specs.Meaning.{StopsSearch}
use Rattle.js_commands.specs.ReadEntries.{entries_read}
use Rattle.js_commands.specs.CheckOutcome.{judgement_of}
use Rattle.js_commands.specs.IncludeMeaning.{AreSchemas, IsPassed, IsFirstRefusal, IsSecondRefusal}
use Rattle.js_top.specs.Names.{compared_names, sat_name}
use Rattle.js_top.specs.Printed.{IsDocumentText}
use Rattle.js_top.specs.Report.{limit_line}
use Rattle.js_report.specs.Lines.{line}

-- ---- what is written of two schemas

-- a document that is valid for the first schema and not for the second, as text
pub record IsCounterexample (a b : Json) (text : List ℕ) : Type 0 where
  pub document : Document
  pub is : IsDocumentText text document
  pub separates : Separates rules a b document

-- the limit that is passed, and the goal that passes it; none where all goals pass it
abbrev pub Passes : Json → Json → LimitKind → Option (List Signed) → Type 0
Passes a b k o = StopsSearch (entries_read a) (entries_read b) k o

-- the line of a limit that is passed, and what this counts is over its number, in the table of both schemas: at the
-- goal that is reported, or where none is reported of all goals that were explored
pub record IsLimit (a b : Json) (text : List ℕ) : Type 0 where
  pub kind : LimitKind
  pub goal : Option (List Signed)
  pub passed : IsPassed a b kind goal
  pub written : limit_line kind goal ≡ text

-- the words name schemas, with these values; of `sat` the second value is `false`
pub record AreNamed (told : Option Files) (words : List (List ℕ)) (a b : Json) : Type 0 where
  pub first : List ℕ
  pub second : Option (List ℕ)
  pub named : compared_names words ≡ Some (first, second)
  pub are : AreSchemas told first second a b

-- a fact of the schemas that the words name, where the files are known
abbrev pub WhereTold : Option Files → List (List ℕ) → (Json → Json → Type 0) → Type 0
WhereTold None words P = Unit {0}
WhereTold (Some files) words P = (a b : Json) → AreNamed (Some files) words a b → P a b

-- two schemas pass some limit
abbrev pub PassLimit : Json → Json → Type 0
PassLimit a b = (k : LimitKind) × (o : Option (List Signed)) × Passes a b k o

-- ---- what is written of a schema that `sat` names

-- the words name a schema, with this value
pub record IsAsked (told : Option Files) (words : List (List ℕ)) (a : Json) : Type 0 where
  pub name : List ℕ
  pub named : sat_name words ≡ Some name
  pub files : Files
  pub later : Files
  pub are_files : AreFiles told files later
  pub is_schema : IsSchemaFile files name a

-- a document that is valid for the schema, as text
pub record IsWitness (a : Json) (text : List ℕ) : Type 0 where
  pub document : Document
  pub is : IsDocumentText text document
  pub whole : is_document document ≡ true
  pub valid : valid rules a document ≡ true

-- no document with whole numbers is valid for the schema
abbrev pub IsUnsatisfiable : Json → Type 0
IsUnsatisfiable a = (J : Document) → is_document J ≡ true → valid rules a J ≡ false

-- bytes that `check` accepts for the schema and `false`, and what that means
pub record IsRefutation (a : Json) (text : List ℕ) : Type 0 where
  pub accepted : judgement_of a (boolean false) text ≡ Accepted
  pub unsatisfiable : IsUnsatisfiable a

-- ---- refusals

-- a file is refused, with this line
abbrev pub RefusesFirst : Files → (first text : List ℕ) → Type 0
RefusesFirst files first text =
    (words : List ℕ) × IsFirstRefusal files first words × (line (codes "refused first " ++ words) ≡ text)

abbrev pub RefusesSecond : Files → Files → (first : List ℕ) → (second : Option (List ℕ)) → (text : List ℕ) → Type 0
RefusesSecond files later first second text =
    (words : List ℕ) × IsSecondRefusal files later first second words × (line (codes "refused second " ++ words) ≡ text)

-- the first refusal in the order of work
pub record IsRefusal (told : Option Files) (words : List (List ℕ)) (text : List ℕ) : Type 0 where
  pub first : List ℕ
  pub second : Option (List ℕ)
  pub named : compared_names words ≡ Some (first, second)
  pub files : Files
  pub later : Files
  pub are_files : AreFiles told files later
  pub refusal : RefusesFirst files first text ⊎ RefusesSecond files later first second text
