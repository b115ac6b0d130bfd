-- The bytes of a file have one reading as a schema; and what follows where they are read.
use Rattle.std.proofs.Common.{◌≡◌, ℕ, List, length, Bool, true, false, nat_lt, Option, Some, None, Result, Ok, Err, ap, sym, ◌∙◌}
use Rattle.documents.specs.Json.{Json}
use Rattle.documents.specs.WellFormed.{is_json}
use Rattle.schemas.specs.Fault.{Fault}
use Rattle.schemas.specs.Entry.{Entry}
use Rattle.schemas.specs.Entries.{read}
use Rattle.schemas.specs.Guarded.{edges, IsGuarded}
use Rattle.schema_laws.proofs.Ways.{IsLeastCycle-one, IsLeastCycle-unguarded}
use Rattle.js_json.specs.Value.{value_of}
use Rattle.js_json.specs.declared.fault.RefFault.{RefFault}
use Rattle.js_pattern.specs.declared.fault.PatternFault.{PatternFault}
use Rattle.js_keywords.specs.Reading.{rules}
use Rattle.js_report.specs.RefusalWords.{cycle_words}
use Rattle.js_report.specs.WholeFile.{longest_file}
use Rattle.js_input.specs.SchemaReading.{Reading, Refused, Read, IsReadingOfEntries, IsReadingOfResult, IsReadingOfValue, IsReadingOf, IsSchemaReading}

-- a file has one reading

entries-one : (j : Json) (es : List Entry) (r s : Reading) → IsReadingOfEntries j es r → IsReadingOfEntries j es s
    → r ≡ s
entries-one j es (Read x) (Read y) h k = ap Read (h.0 ∙ sym k.0)
entries-one j es (Read x) (Refused ws) h k = absurd (IsLeastCycle-unguarded (edges es) k.0 k.1 h.1)
entries-one j es (Refused ws) (Read y) h k = absurd (IsLeastCycle-unguarded (edges es) h.0 h.1 k.1)
entries-one j es (Refused ws) (Refused vs) h k =
    ap Refused (h.2 ∙ ap (cycle_words es) (IsLeastCycle-one (edges es) h.0 k.0 h.1 k.1) ∙ sym k.2)

result-one : (j : Json) (o : Result (List Entry) (Fault PatternFault RefFault)) (r s : Reading)
    → IsReadingOfResult j o r → IsReadingOfResult j o s → r ≡ s
result-one j (Ok es) r s h k = entries-one j es r s h k
result-one j (Err f) r s h k = h ∙ sym k

value-one : (v : Option Json) (r s : Reading) → IsReadingOfValue v r → IsReadingOfValue v s → r ≡ s
value-one (Some j) r s h k = result-one j (read rules j) r s h k
value-one None r s h k = h ∙ sym k

length-one : (b : Bool) (v : Option Json) (r s : Reading) → IsReadingOf b v r → IsReadingOf b v s → r ≡ s
length-one true v r s h k = h ∙ sym k
length-one false v r s h k = value-one v r s h k

-- two readings of the same bytes as a schema are the same
pub IsSchemaReading-one : (bytes : List ℕ) (r s : Reading) → IsSchemaReading bytes r → IsSchemaReading bytes s → r ≡ s
IsSchemaReading-one bytes r s h k = length-one (nat_lt longest_file (length bytes)) (value_of bytes) r s h k

-- a schema that is read is the value of a text, has entries, and no cycle leads through them

pub record IsGuardedValue (j : Json) : Type 0 where
  pub well_formed : is_json j ≡ true
  pub entries : List Entry
  pub is_read : read rules j ≡ Ok entries
  pub guarded : IsGuarded (edges entries)
