-- What a file and its rules have to be, so that a schema without a fault gives a table.
use Rattle.std.specs.Prelude.{◌≡◌, ℕ, ◌≤◌, List, true, Some, Ok}
use Rattle.documents.specs.Json.{Json}
use Rattle.documents.specs.Place.{value_at}
use Rattle.documents.specs.WellFormed.{is_json}
use Rattle.schemas.specs.Places.{Pointer}
use Rattle.schemas.specs.Fault.{Rules}
use Rattle.schemas.specs.Walk.{root_id}
use Rattle.schemas.specs.Weight.{most_weight}

pub record IsSound {P R : Type 0} (rules : Rules P R) (root : Json) : Type 0 where
  -- the file is the value of a text
  pub well_formed : is_json root ≡ true
  -- where a reference leads, there is a value
  pub leads : (w : List ℕ) (q : Pointer) → rules.target root w (root_id root) ≡ Ok q
      → (v : Json) × (value_at q root ≡ Some v)
  -- no schema may weigh more than a table does
  pub weighs : rules.most_weight ≤ most_weight
