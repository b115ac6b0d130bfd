-- Distances from one entry.
use Rattle.std.specs.Prelude.{◌≡◌, ℕ, suc, ◌+◌, ◌<◌, ◌≤◌, List, [], ◌∷◌, ◌++◌, length, get_or, set, true, Option, Some, None, is_none, count_by}
use Rattle.schemas.specs.Guarded.{targets, is_among, leads}
use Rattle.js_guard.specs.declared.distances.Reached.{Reached}
use Rattle.js_guard.specs.declared.distances.Frontier.{Frontier}

abbrev pub get_distance : List (Option ℕ) → ℕ → Option ℕ
get_distance D x = get_or D x None

-- the fewest edges from f to each entry, None where no way leads there
pub record AreDistances (g : List (List ℕ)) (f : ℕ) (D : List (Option ℕ)) : Type 0 where
  pub known : length D ≡ length g
  pub way : (x d : ℕ) → get_distance D x ≡ Some d → leads g d f x ≡ true
  pub fewest : (x n : ℕ) → leads g n f x ≡ true → (d : ℕ) × (get_distance D x ≡ Some d) × (d ≤ n)

abbrev pub item : List Reached → ℕ → Reached
item Q i = get_or Q i (record { entry = 0; distance = 0 })

-- the entries Q that are reached so far, with their distances D from the first of them. The edges of those before place
-- h are followed, and no distance is greater by more than 1 than that of the entry at place h
pub record IsReaching (g : List (List ℕ)) (D : List (Option ℕ)) (Q : List Reached) (h : ℕ) : Type 0 where
  pub known : length D ≡ length g
  pub begun : 0 < length Q
  pub queued : (x d : ℕ) → get_distance D x ≡ Some d
      → (i : ℕ) × (i < length Q) × ((item Q i).entry ≡ x) × ((item Q i).distance ≡ d)
  pub reached : (i : ℕ) → i < length Q → get_distance D (item Q i).entry ≡ Some (item Q i).distance
  pub way : (i : ℕ) → i < length Q → leads g (item Q i).distance (item Q 0).entry (item Q i).entry ≡ true
  pub rising : (i j : ℕ) → i < j → j < length Q → (item Q i).distance ≤ (item Q j).distance
  pub near : (i : ℕ) → i < length Q → h < length Q → (item Q i).distance ≤ suc (item Q h).distance
  pub small : (i : ℕ) → i < length Q → (item Q i).distance ≤ i
  pub followed : (i y : ℕ) → i < h → i < length Q → is_among y (targets g (item Q i).entry) ≡ true
      → (d : ℕ) × (get_distance D y ≡ Some d) × (d ≤ suc (item Q i).distance)
  pub counted : count_by is_none D + length Q ≡ length g

abbrev pub IsReachingWith : List (List ℕ) → Frontier → ℕ → Type 0
IsReachingWith g s h = IsReaching g s.distances.items s.queue.items h

-- an entry has that distance, unless it has one already
abbrev pub ReachesAt : Option ℕ → Frontier → Frontier → ℕ → ℕ → Type 0
ReachesAt (Some e) s s' x d = s' ≡ s
ReachesAt None s s' x d =
    (s'.distances.items ≡ set s.distances.items x (Some d))
    × (s'.queue.items ≡ s.queue.items ++ record { entry = x; distance = d } ∷ [])
