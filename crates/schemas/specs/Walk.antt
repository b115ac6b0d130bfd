-- The walk from schema to schema: which places it comes to, in their order.
use Rattle.std.specs.Prelude.{ℕ, zero, suc, List, [], ◌∷◌, ◌++◌, Option, Some, None, Result, Ok, Err, cond, codes}
use Rattle.documents.specs.Json.{Json, string, object, Members, lookup, count}
use Rattle.documents.specs.Place.{value_at}
use Rattle.schemas.specs.Places.{Pointer, Place, has_place}
use Rattle.schemas.specs.SubSchemas.{sub_schemas}
use Rattle.schemas.specs.Fault.{Rules}

-- the identifier of a file: the root's `$id`, where the root is an object that has one and it is a string
abbrev pub word_of : Option Json → Option (List ℕ)
word_of (Some (string w)) = Some w
word_of _ = None

abbrev pub root_id : Json → Option (List ℕ)
root_id (object ms) = word_of (lookup (codes "$id") ms)
root_id _ = None

-- the place with that value, where there is one
abbrev pub place_with : Pointer → Option Json → List Place
place_with p None = []
place_with p (Some v) = (p, v) ∷ []

-- the place that a reference leads to, where it leads to one
abbrev pub place_of : {R : Type 0} → Json → Result Pointer R → List Place
place_of root (Ok p) = place_with p (value_at p root)
place_of root (Err e) = []

-- the first of the places that isn't among those that are done, and the places after it
abbrev pub next_of : List Place → List Place → Option (Place × List Place)
next_of done [] = None
next_of done (c ∷ cs) = cond (has_place done c.0) (next_of done cs) (Some (c, cs))

-- that place, and what follows once it is done
abbrev pub go_on : (Place → List Place → List Place) → Option (Place × List Place) → List Place
go_on follow None = []
go_on follow (Some x) = x.0 ∷ follow x.0 x.1

module _ {P R : Type 0} (rules : Rules P R) (root : Json) where
  -- the value of `$ref`
  abbrev pub referred : Json → List Place
  referred (string w) = place_of root (rules.target root w (root_id root))
  referred _ = []

  -- the schemas to which an object leads: beside a reference nothing else is looked at
  abbrev pub object_children : Option Json → Pointer → Members → List Place
  object_children (Some v) p ms = referred v
  object_children None p ms = sub_schemas p ms

  abbrev pub children : Place → List Place
  children (p, object ms) = object_children (lookup (codes "$ref") ms) p ms
  children _ = []

  -- depth first, each place once: the next place that isn't done, then its children before the others that wait.
  -- At most n places follow
  unfoldable pub walk : ℕ → List Place → List Place → List Place
  walk zero done waiting = []
  walk (suc n) done waiting =
      go_on (λ c others. walk n (done ++ c ∷ []) (children c ++ others)) (next_of done waiting)

  -- the places of a schema, from its root on: there are no more of them than values in it
  unfoldable pub places : List Place
  places = walk (count root) [] (([], root) ∷ [])
