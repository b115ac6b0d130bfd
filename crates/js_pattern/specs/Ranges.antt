-- Lists of ranges on the way to a set.
use Rattle.std.specs.Prelude.{◌≡◌, ◌≤◌, ℕ, ◌+◌, max, Bool, true, false, Option, Some, None, ◌&&◌, nat_le, nat_lt, List, [], ◌∷◌, if◌then◌else◌}
use Rattle.patterns.specs.CharSet.{has}

-- each range has a member and ends at a code point
abbrev pub are_up : List (ℕ × ℕ) → Bool
are_up [] = true
are_up (r ∷ rs) = nat_le r.0 r.1 && nat_lt r.1 0x110000 && are_up rs

-- a range, and sorted ones that are joined to it as far as they meet it
abbrev pub joined_from : ℕ → ℕ → List (ℕ × ℕ) → List (ℕ × ℕ)
joined_from first last [] = (first, last) ∷ []
joined_from first last (r ∷ rs) =
    if nat_le r.0 (last + 1) then joined_from first (max last r.1) rs else
    (first, last) ∷ joined_from r.0 r.1 rs

abbrev pub joined : List (ℕ × ℕ) → List (ℕ × ℕ)
joined [] = []
joined (r ∷ rs) = joined_from r.0 r.1 rs

-- the least member of a set from one number to another
abbrev pub FirstWithin : List (ℕ × ℕ) → ℕ → ℕ → Option ℕ → Type 0
FirstWithin set low high None = (d : ℕ) → low ≤ d → d ≤ high → has set d ≡ false
FirstWithin set low high (Some c) =
    (has set c ≡ true) × (low ≤ c) × (c ≤ high) × ((d : ℕ) → low ≤ d → has set d ≡ true → c ≤ d)
