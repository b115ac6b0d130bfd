-- What is wrong at a place, by its parts.
use Rattle.std.proofs.Common.{◌≡◌, codes, refl, ap₂}
use Rattle.documents.specs.Json.{Json, Members, no_members, member, lookup}
use Rattle.schemas.specs.Places.{Pointer}
use Rattle.schemas.specs.Keyword.{is_list}
use Rattle.schemas.specs.Fault.{or_else}
use Rattle.schemas.specs.Reading.{members_fault}
use Rattle.js_keywords.specs.Reading.{rules}
use Rattle.js_walk.proofs.HoldingLemmas.{sub_schemas-held}
use Rattle.js_walk.specs.Visiting.{members_fault_by}

-- the members of an object whose `items` is as it is
members_fault-by : (root : Json) (ms : Members) (p : Pointer) (rest : Members)
    → members_fault_by root (is_list (lookup (codes "items") ms)) p rest ≡ members_fault rules root ms p rest
members_fault-by root ms p no_members = refl
members_fault-by root ms p (member k v rest) = ap₂ or_else refl (members_fault-by root ms p rest)

-- the first fault of an object's members depends on `items` only by whether it is a list
pub object_fault-by : (root : Json) (p : Pointer) (ms : Members)
    → members_fault_by root (is_list (lookup (codes "items") ms)) p ms ≡ members_fault rules root ms p ms
object_fault-by root p ms = members_fault-by root ms p ms

pub ruleset by_parts = (object_fault-by, sub_schemas-held)
