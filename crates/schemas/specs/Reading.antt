-- The first fault of a schema, in the order of the walk.
use Rattle.std.specs.Prelude.{ℕ, ◌+◌, List, [], ◌∷◌, ◌++◌, Option, Some, None, Result, Ok, Err, cond, nat_lt, codes}
use Rattle.documents.specs.Tests.{same_word}
use Rattle.documents.specs.Json.{Json, boolean, string, object, Members, no_members, member, lookup}
use Rattle.schemas.specs.Places.{Pointer, Place}
use Rattle.schemas.specs.Keyword.{Shape, read_shape}
use Rattle.schemas.specs.Fault.{Fault, Rules, NotASchema, WrongShape, InnerId, BadReference, TooLarge, or_else, keyword_fault}
use Rattle.schemas.specs.Walk.{root_id, places}
use Rattle.schemas.specs.Weight.{weight}

module _ {P R : Type 0} (rules : Rules P R) (root : Json) where
  -- an object below the root has no `$id`, and the root's is a string
  abbrev pub id_fault : Pointer → Json → Option (Fault P R)
  id_fault [] (string w) = None
  id_fault [] v = Some (WrongShape (codes "$id") (codes "$id" ∷ []))
  id_fault (t ∷ p) v = Some (InnerId ((t ∷ p) ++ codes "$id" ∷ []))

  -- a fault of a reference is reported at the object that has it
  abbrev pub target_fault : Pointer → Result Pointer R → Option (Fault P R)
  target_fault p (Ok q) = None
  target_fault p (Err e) = Some (BadReference e p)

  abbrev pub reference_fault : Pointer → Json → Option (Fault P R)
  reference_fault p (string w) = target_fault p (rules.target root w (root_id root))
  reference_fault p v = Some (WrongShape (codes "$ref") (p ++ codes "$ref" ∷ []))

  -- a member that is a keyword of that shape, and one that is none
  abbrev pub shape_fault : Option Shape → List ℕ → Pointer → Json → Option (Fault P R)
  shape_fault None k p v = None
  shape_fault (Some S) k p v = keyword_fault rules S k (p ++ k ∷ []) v

  -- a member of the object `ms` at p
  abbrev pub member_fault : (ms : Members) → Pointer → List ℕ → Json → Option (Fault P R)
  member_fault ms p k v =
      cond (same_word k (codes "$id")) (id_fault p v) (shape_fault (read_shape ms k) k p v)

  -- the members of the object `ms` at p, from some member on
  abbrev pub members_fault : (ms : Members) → Pointer → Members → Option (Fault P R)
  members_fault ms p no_members = None
  members_fault ms p (member k v rest) = or_else (member_fault ms p k v) (members_fault ms p rest)

  -- of an object with `$ref` that member alone is looked at
  abbrev pub object_fault : Option Json → Pointer → Members → Option (Fault P R)
  object_fault (Some r) p ms = reference_fault p r
  object_fault None p ms = members_fault ms p ms

  -- what is wrong at a place, but for its weight
  abbrev pub fault_at : Place → Option (Fault P R)
  fault_at (p, boolean b) = None
  fault_at (p, object ms) = object_fault (lookup (codes "$ref") ms) p ms
  fault_at (p, v) = Some (NotASchema p)

  -- at a place after others of that weight: the greatest weight may not be passed with it
  abbrev pub fault_with : ℕ → Place → Option (Fault P R)
  fault_with before c =
      or_else (fault_at c) (cond (nat_lt rules.most_weight (before + weight c)) (Some (TooLarge c.0)) None)

  -- the first fault of places after others of that weight
  abbrev pub fault_after : ℕ → List Place → Option (Fault P R)
  fault_after before [] = None
  fault_after before (c ∷ cs) = or_else (fault_with before c) (fault_after (before + weight c) cs)

  -- the first fault of a schema, and None where it is read
  abbrev pub first_fault : Option (Fault P R)
  first_fault = fault_after 0 (places rules root)
