-- All values in a JSON value, with their places.
use Rattle.std.specs.Prelude.{ℕ, suc, Bool, true, ◌&&◌, is_none, List, [], ◌∷◌, ◌++◌}
use Rattle.documents.specs.Json.{Json, array, object, Items, no_items, item, Members, no_members, member, lookup}
use Rattle.schemas.specs.Places.{Pointer, Place, index_token}

-- the values in the value at p, in pre-order
abbrev mutual
  pub inside : Pointer → Json → List Place
  inside p (array vs) = of_items p 0 vs
  inside p (object ms) = of_members p ms
  inside p _ = []

  pub of_items : Pointer → ℕ → Items → List Place
  of_items p i no_items = []
  of_items p i (item v vs) =
      (p ++ index_token i ∷ [], v) ∷ inside (p ++ index_token i ∷ []) v ++ of_items p (suc i) vs

  pub of_members : Pointer → Members → List Place
  of_members p no_members = []
  of_members p (member k v ms) = (p ++ k ∷ [], v) ∷ inside (p ++ k ∷ []) v ++ of_members p ms

-- a value and all values inside it
abbrev pub values_from : Pointer → Json → List Place
values_from p v = (p, v) ∷ inside p v

-- no object has a name twice
abbrev mutual
  pub names_differ : Json → Bool
  names_differ (array vs) = names_differ_in vs
  names_differ (object ms) = members_differ ms
  names_differ _ = true

  pub names_differ_in : Items → Bool
  names_differ_in no_items = true
  names_differ_in (item v vs) = names_differ v && names_differ_in vs

  pub members_differ : Members → Bool
  members_differ no_members = true
  members_differ (member k v ms) = is_none (lookup k ms) && (names_differ v && members_differ ms)
