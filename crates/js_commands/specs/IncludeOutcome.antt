-- What the comparison of two schemas comes to: of those of two files, and of that of a file and the value `false`.
use Rattle.std.specs.Prelude.{◌≡◌, ℕ, List, [], ◌∷◌, false, Option, Some, None, encode_utf8_all}
use Rattle.documents.specs.Json.{Json, boolean}
use Rattle.shared_documents.specs.Part.{Part}
use Rattle.schemas.specs.Entry.{Entry}
use Rattle.goals.specs.Signed.{Signed}
use Rattle.alternatives.specs.Limit.{LimitKind}
use Rattle.decisions.specs.Decision as D
use Rattle.js_outside.specs.Told.{Files}
use Rattle.js_input.specs.SchemaReading.{Reading, Refused, Read, IsSchemaReading}
use Rattle.js_input.specs.ToldTwice.{AreFiles}
use Rattle.js_inclusion.specs.Comparison.{comparison, certificate_text}
use Rattle.js_commands.specs.ReadEntries.{entries_read}

-- what is found of two schemas
pub data Answer : Type 0 where
  -- a document that is valid for the first and not for the second: that of the part of this number
  Document : List Part → ℕ → Answer
  -- the bytes of a certificate that there is none
  Certificate : List ℕ → Answer
  -- a limit that hides whether there is one, and the goal that passes it
  Limit : LimitKind → Option (List Signed) → Answer

pub data Outcome : Type 0 where
  -- whether a document is valid for the first schema and not for the second
  Decided : Answer → Outcome
  -- the words of a refusal after the file's role
  FirstRefused : List ℕ → Outcome
  SecondRefused : List ℕ → Outcome
  -- a file isn't there
  ReadFault : Outcome

-- what is decided, with the text of the certificate
abbrev pub of_decision : (text : List ℕ) → D.Verdict → Answer
of_decision text (D.Document ps i) = Document ps i
of_decision text D.NoDocument = Certificate text
of_decision text (D.Limit k o) = Limit k o

abbrev pub answer : List Entry → List Entry → Answer
answer es fs = of_decision (certificate_text es fs) (comparison es fs)

-- the outcome of two schemas that are read
abbrev pub of_values : Json → Json → Outcome
of_values a b = Decided (answer (entries_read a) (entries_read b))

abbrev pub of_second : Json → Reading → Outcome
of_second a (Refused words) = SecondRefused words
of_second a (Read b) = of_values a b

-- against a file, by its bytes where they are there
abbrev pub IsAgainstBytes : Option (List ℕ) → Json → Outcome → Type 0
IsAgainstBytes None a o = o ≡ ReadFault
IsAgainstBytes (Some bytes) a o = (r : Reading) × IsSchemaReading bytes r × (of_second a r ≡ o)

-- what comes second: the file of that name, or where there is none the value `false`, for which no document is valid
abbrev pub IsAgainst : Files → Option (List ℕ) → Json → Outcome → Type 0
IsAgainst files None a o = of_values a (boolean false) ≡ o
IsAgainst files (Some name) a o = IsAgainstBytes (files (encode_utf8_all name)) a o

-- the second is looked at only where the first is read
abbrev pub IsOfFirst : (against : Json → Outcome → Type 0) → Reading → Outcome → Type 0
IsOfFirst against (Refused words) o = o ≡ FirstRefused words
IsOfFirst against (Read a) o = against a o

-- what they come to, by the first file's bytes where they are there
abbrev pub IsOutcomeOf : (first : Option (List ℕ)) → (against : Json → Outcome → Type 0) → Outcome → Type 0
IsOutcomeOf None against o = o ≡ ReadFault
IsOutcomeOf (Some bytes) against o = (r : Reading) × IsSchemaReading bytes r × IsOfFirst against r o

-- what the files of these names come to; `later` are the files when the second is read
pub record IsComparison (told : Option Files) (first : List ℕ) (second : Option (List ℕ)) (o : Outcome) : Type 0 where
  pub files : Files
  pub later : Files
  pub are_files : AreFiles told files later
  pub outcome : IsOutcomeOf (files (encode_utf8_all first)) (IsAgainst later second) o

-- the name of the second file, where there is one
abbrev pub second_file : Option (List ℕ) → List (List ℕ)
second_file None = []
second_file (Some name) = encode_utf8_all name ∷ []
