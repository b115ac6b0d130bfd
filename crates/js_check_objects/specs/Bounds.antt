-- The bounds that were stated, and what is kept of them for plans.
use Rattle.std.specs.Prelude.{ℕ, zero, suc, ◌+◌, List, [], ◌∷◌, map, reverse, cond, nat_eq, Option, Some, None}
use Rattle.verdicts.specs.Bounds.{Bound}
use Rattle.js_check_objects.specs.declared.stated_bound.StatedBound.{StatedBound}

abbrev pub bound_view : StatedBound → Bound
bound_view b = (b.cell, b.labels.items)

-- the last one first
abbrev pub bounds_in : List StatedBound → List Bound
bounds_in bs = reverse (map bound_view bs)

-- the bound that is at the number of a cell
abbrev pub cap_at : List (Option ℕ) → ℕ → Option ℕ
cap_at [] c = None
cap_at (o ∷ os) zero = o
cap_at (o ∷ os) (suc c) = cap_at os c

-- one more than the last cell of which a bound was stated
abbrev pub past : List Bound → ℕ
past [] = 0
past (b ∷ bs) = b.0 + 1

-- bounds of cells with the bound of one more
abbrev pub with_cap : ℕ → ℕ → (ℕ → Option ℕ) → ℕ → Option ℕ
with_cap cell cap caps c = cond (nat_eq cell c) (Some cap) (caps c)
