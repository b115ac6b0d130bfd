-- Where a member of some name is among members by name.
use Rattle.std.specs.Prelude.{◌≡◌, ℕ, ◌<◌, ◌≤◌, List, [], map, length, get_or, true}
use Rattle.documents.specs.Json.{Json}
use Rattle.documents.specs.Tests.{comes_before}

abbrev pub names : List (List ℕ × Json) → List (List ℕ)
names ms = map (λ m. m.0) ms

-- the first i names come before the name
abbrev pub AreBefore : List (List ℕ) → List ℕ → ℕ → Type 0
AreBefore ns name i = (k : ℕ) → k < i → comes_before (get_or ns k []) name ≡ true

-- name i is that one
pub record IsThere (ns : List (List ℕ)) (name : List ℕ) (i : ℕ) : Type 0 where
  pub before : AreBefore ns name i
  pub within : i < length ns
  pub same : get_or ns i [] ≡ name

-- the name would be name i, before the one that is there
pub record IsFree (ns : List (List ℕ)) (name : List ℕ) (i : ℕ) : Type 0 where
  pub before : AreBefore ns name i
  pub within : i ≤ length ns
  pub after : i < length ns → comes_before name (get_or ns i []) ≡ true
