-- What is required of a look at one place.
use Rattle.std.specs.Prelude.{◌≡◌, ℕ, List, [], ◌++◌, map, length, nat_lt, Bool, true, Option, Some, None, Result, Ok, Err}
use Rattle.documents.specs.Tests.{every}
use Rattle.documents.specs.Json.{Json, string, Members, no_members, member}
use Rattle.schemas.specs.Places as P
use Rattle.schemas.specs.Fault.{Fault, or_else}
use Rattle.schemas.specs.Walk.{root_id}
use Rattle.js_json.specs.Reference.{target_of}
use Rattle.js_json.specs.declared.fault.RefFault.{RefFault}
use Rattle.js_pattern.specs.declared.fault.PatternFault.{PatternFault}
use Rattle.js_keywords.specs.declared.fault.SchemaFault.{SchemaFault}
use Rattle.js_keywords.specs.FaultView.{Tells}
use Rattle.js_keywords.specs.Member.{named_fault}
use Rattle.js_pointers.specs.Table.{Leads, Grows}
use Rattle.js_walk.specs.declared.place.Place.{Place}
use Rattle.js_walk.specs.declared.place.Found.{Found}
use Rattle.js_walk.specs.PlacesView.{place_view}

-- the pointers of places are among those that have numbers
abbrev pub AreWithin : List P.Pointer → List Place → Type 0
AreWithin ps cs = every (λ c. nat_lt c.pointer (length ps)) cs ≡ true

-- some places are added, and the pointers that they need
pub record Adds (old new : List P.Pointer) (before after : List Place) (more : List P.Place) : Type 0 where
  pub grows : Grows old new
  pub within : AreWithin new after
  pub adds : map (place_view new) after ≡ map (place_view old) before ++ more

-- of the places that are to be added these are left
pub record Adding (old new : List P.Pointer) (before after : List Place) (left more : List P.Place) : Type 0 where
  pub grows : Grows old new
  pub within : AreWithin new after
  pub adds : map (place_view new) after ++ left ≡ map (place_view old) before ++ more

-- the pointer has the number, which it keeps
abbrev pub Settles : List P.Pointer → Option ℕ → P.Pointer → Type 0
Settles ps (Some n) p = Leads ps (Some n) p
Settles ps None p = ⊥

-- the number is that of the pointer to which a reference leads, if the value is one
abbrev pub Settled : Json → List P.Pointer → Option Json → Option ℕ → Type 0
Settled root ps (Some (string w)) t = (q : P.Pointer) × (target_of root w (root_id root) ≡ Ok q) × Settles ps t q
Settled root ps _ t = Unit {0}

-- nothing is wrong, these places are led to, and a reference leads to where the number says
pub record Visited (root : Json) (old new : List P.Pointer) (owed : Option (Fault PatternFault RefFault))
    (places : List P.Place) (reference : Option Json) (found : Found) : Type 0 where
  pub faultless : owed ≡ None
  pub leads : Adds old new [] found.places.items places
  pub refers : Settled root new reference found.target

-- the look finds this, or the fault that is owed
abbrev pub Visits : Json → (old new : List P.Pointer) → Option (Fault PatternFault RefFault) → List P.Place
    → Option Json → Result Found SchemaFault → Type 0
Visits root old new owed places reference (Ok found) = Visited root old new owed places reference found
Visits root old new owed places reference (Err f) = Tells owed f

-- the members of an object whose `items` is a list or isn't
abbrev pub members_fault_by : Json → Bool → P.Pointer → Members → Option (Fault PatternFault RefFault)
members_fault_by root listed p no_members = None
members_fault_by root listed p (member k v rest) =
    or_else (named_fault root listed p k v) (members_fault_by root listed p rest)
