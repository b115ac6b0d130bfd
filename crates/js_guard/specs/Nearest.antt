-- Which entry has the shortest way back.
use Rattle.std.specs.Prelude.{◌≡◌, ℕ, ◌<◌, ◌≤◌, List, get_or, Bool, true, ◌&&◌, ◌||◌, cond, nat_eq, nat_lt, Option, Some, None}
use Rattle.schemas.specs.Guarded.{is_among}
use Rattle.js_guard.specs.declared.cycle.Candidate.{Candidate}
use Rattle.js_guard.specs.Distances.{get_distance}

-- of the entries of a row, the one with the least distance, the least among equals
pub record IsNearest (D : List (Option ℕ)) (row : List ℕ) (y : ℕ) : Type 0 where
  pub among : is_among y row ≡ true
  pub steps : ℕ
  pub known : get_distance D y ≡ Some steps
  pub nearest : (z e : ℕ) → is_among z row ≡ true → get_distance D z ≡ Some e → steps ≤ e
  pub least : (z : ℕ) → is_among z row ≡ true → get_distance D z ≡ Some steps → y ≤ z

-- by distance, and then by number
abbrev pub is_nearer : Candidate → Candidate → Bool
is_nearer a b =
    nat_lt a.distance b.distance || (nat_eq a.distance b.distance && nat_lt a.entry b.entry)

abbrev pub nearer_of : Option Candidate → Candidate → Candidate
nearer_of None b = b
nearer_of (Some a) b = cond (is_nearer a b) a b

-- the nearest of the first n entries of a row, None where none of them has a distance
abbrev pub IsBest : List (Option ℕ) → List ℕ → ℕ → Option Candidate → Type 0
IsBest D row n None = (k : ℕ) → k < n → get_distance D (get_or row k 0) ≡ None
IsBest D row n (Some b) =
    ((k : ℕ) × (k < n) × (get_or row k 0 ≡ b.entry)) × (get_distance D b.entry ≡ Some b.distance)
    × ((k e : ℕ) → k < n → get_distance D (get_or row k 0) ≡ Some e
    → (b.distance ≤ e) × (e ≡ b.distance → b.entry ≤ get_or row k 0))
