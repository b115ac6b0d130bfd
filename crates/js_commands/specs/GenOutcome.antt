-- What the two schemas of a family come to.
use Rattle.std.specs.Prelude.{◌≡◌, ℕ, List}
use Rattle.documents.specs.Json.{Json}
use Rattle.schemas.specs.Entry.{Entry}
use Rattle.schemas.specs.Entries.{read}
use Rattle.families.specs.Families.{Family, family}
use Rattle.js_keywords.specs.Reading.{rules}
use Rattle.js_input.specs.SchemaReading.{Reading, Refused, Read, IsReadingOfResult}
use Rattle.js_inclusion.specs.Comparison.{decided_of}
use Rattle.js_commands.specs.ReadEntries.{entries_read}
use Rattle.js_commands.specs.IncludeOutcome.{Answer, answer}

pub data Outcome : Type 0 where
  -- whether a document is valid for the first schema and not for the second, with the number of goals that were
  -- explored, and the last round that added one
  Decided : Answer → (goals rounds : ℕ) → Outcome
  -- the words of a refusal after the schema's role
  FirstRefused : List ℕ → Outcome
  SecondRefused : List ℕ → Outcome

abbrev pub of_entries : List Entry → List Entry → Outcome
of_entries es fs = Decided (answer es fs) (decided_of es fs).goals (decided_of es fs).rounds

abbrev pub of_second : Json → Reading → Outcome
of_second a (Refused words) = SecondRefused words
of_second a (Read b) = of_entries (entries_read a) (entries_read b)

-- what a value is read as
abbrev pub IsValueReading : Json → Reading → Type 0
IsValueReading j r = IsReadingOfResult j (read rules j) r

-- the second is looked at only where the first is read
abbrev pub IsAfterFirst : Json → Reading → Outcome → Type 0
IsAfterFirst b (Refused words) o = o ≡ FirstRefused words
IsAfterFirst b (Read a) o = (r : Reading) × IsValueReading b r × (of_second a r ≡ o)

-- what two values come to
abbrev pub IsOfValues : Json → Json → Outcome → Type 0
IsOfValues a b o = (r : Reading) × IsValueReading a r × IsAfterFirst b r o

-- what the schemas of a family at a number come to
abbrev pub IsFamilyInclusion : Family → ℕ → Outcome → Type 0
IsFamilyInclusion f n o = IsOfValues (family f n).0 (family f n).1 o
