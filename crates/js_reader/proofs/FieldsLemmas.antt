-- The schemas in a keyword's value, by the place of the value.
use Rattle.std.proofs.Common.{◌≡◌, ℕ, List, [], ◌∷◌, ◌++◌, map, refl, ap₂}
use Rattle.documents.specs.Json.{Json, array, object, Members, no_members, member, entries}
use Rattle.schemas.specs.Places.{Pointer, Place}
use Rattle.schemas.specs.Entries.{number_of, list_numbers, items_part, named_numbers, needs_of, all_needs}
use Rattle.js_reader.specs.Links.{list_at, items_at, map_at, need_at, needs_at, all_needs_at}

module _ (cs : List Place) (p : Pointer) (k : List ℕ) where
  -- schemas of a list by the place of the value are those by the place of the object and the keyword
  pub list_at-numbers : (v : Json) → list_at cs (p ++ k ∷ []) v ≡ list_numbers (number_of cs) p k v
  list_at-numbers (array vs) = refl
  list_at-numbers _ = refl

  pub items_at-part : (v : Json) → items_at cs (p ++ k ∷ []) v ≡ items_part (number_of cs) p k v
  items_at-part (array vs) = refl
  items_at-part _ = refl

  pub map_at-numbers : (v : Json) → map_at cs (p ++ k ∷ []) v ≡ named_numbers (number_of cs) p k v
  map_at-numbers (object ms) = refl
  map_at-numbers _ = refl

  need_at-needs : (w : List ℕ) (v : Json) → need_at cs (p ++ k ∷ []) w v ≡ needs_of (number_of cs) p k (w, v)
  need_at-needs w (array vs) = refl
  need_at-needs w _ = refl

  needs_at-needs : (ms : Members)
      → needs_at cs (p ++ k ∷ []) ms ≡ map (λ m. (m.0, needs_of (number_of cs) p k m)) (entries ms)
  needs_at-needs no_members = refl
  needs_at-needs (member w v ms) = ap₂ (λ n ns. (w, n) ∷ ns) (need_at-needs w v) (needs_at-needs ms)

  pub all_needs_at-needs : (v : Json) → all_needs_at cs (p ++ k ∷ []) v ≡ all_needs (number_of cs) p k v
  all_needs_at-needs (object ms) = needs_at-needs ms
  all_needs_at-needs _ = refl

pub ruleset links = (list_at-numbers, items_at-part, map_at-numbers, all_needs_at-needs)
