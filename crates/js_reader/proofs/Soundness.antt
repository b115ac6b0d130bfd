-- The value of a text and the rules of reading are what the law of tables requires.
use Rattle.std.proofs.Common.{◌≡◌, true, None, arith}
use Rattle.documents.specs.Json.{Json}
use Rattle.documents.specs.WellFormed.{is_json}
use Rattle.js_json.proofs.ReferenceLemmas.{value_at-target_of}
use Rattle.schemas.specs.Walk.{root_id, places}
use Rattle.schemas.specs.Reading.{first_fault}
use Rattle.schemas.specs.Entries.{entries_at}
use Rattle.schemas.specs.Schema.{is_table}
use Rattle.schema_laws.specs.Sound.{IsSound}
use Rattle.schema_laws.proofs.TableLaw.{is_table-entries}
use Rattle.js_keywords.specs.Reading.{rules}

pub rules_sound : (root : Json) → is_json root ≡ true → IsSound rules root
rules_sound root h = record {
  well_formed = h;
  leads = λ w q led. value_at-target_of root w (root_id root) q led;
  weighs = omega arith;
}

-- so what is read of a text without a fault is a table
pub is_table-read : (root : Json) → is_json root ≡ true → first_fault rules root ≡ None
    → is_table (entries_at rules root (places rules root)) ≡ true
is_table-read root h none = is_table-entries rules root (rules_sound root h) none
