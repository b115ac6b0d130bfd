-- What the bytes of a schema file are read as.
use Rattle.std.specs.Prelude.{◌≡◌, ℕ, List, length, Bool, true, false, nat_lt, Option, Some, None, Result, Ok, Err, codes}
use Rattle.documents.specs.Json.{Json}
use Rattle.schemas.specs.Fault.{Fault}
use Rattle.schemas.specs.Entry.{Entry}
use Rattle.schemas.specs.Entries.{read}
use Rattle.schemas.specs.Guarded.{edges, IsGuarded, IsLeastCycle}
use Rattle.js_json.specs.Value.{value_of}
use Rattle.js_json.specs.declared.fault.RefFault.{RefFault}
use Rattle.js_pattern.specs.declared.fault.PatternFault.{PatternFault}
use Rattle.js_keywords.specs.Reading.{rules}
use Rattle.js_report.specs.RefusalWords.{schema_words, cycle_words}
use Rattle.js_report.specs.WholeFile.{longest_file}

-- a schema, by its JSON value, or the words of the refusal after the file's role
pub data Reading : Type 0 where
  Refused : List ℕ → Reading
  Read : Json → Reading

-- entries that no cycle leads through are read, and else the cycle that is reported is refused. There is one such cycle
abbrev pub IsReadingOfEntries : Json → List Entry → Reading → Type 0
IsReadingOfEntries j es (Read x) = (x ≡ j) × IsGuarded (edges es)
IsReadingOfEntries j es (Refused words) = (l : List ℕ) × IsLeastCycle (edges es) l × (words ≡ cycle_words es l)

-- the first fault comes before cycles
abbrev pub IsReadingOfResult : Json → Result (List Entry) (Fault PatternFault RefFault) → Reading → Type 0
IsReadingOfResult j (Ok es) r = IsReadingOfEntries j es r
IsReadingOfResult j (Err f) r = r ≡ Refused (schema_words f)

abbrev pub IsReadingOfValue : Option Json → Reading → Type 0
IsReadingOfValue (Some j) r = IsReadingOfResult j (read rules j) r
IsReadingOfValue None r = r ≡ Refused (codes "notjson")

abbrev pub IsReadingOf : (is_too_long : Bool) → Option Json → Reading → Type 0
IsReadingOf true v r = r ≡ Refused (codes "toolong")
IsReadingOf false v r = IsReadingOfValue v r

-- its length first, then its JSON, then its first fault, then the cycle that is reported
abbrev pub IsSchemaReading : List ℕ → Reading → Type 0
IsSchemaReading bytes r = IsReadingOf (nat_lt longest_file (length bytes)) (value_of bytes) r
