-- What holds of sets of characters and of matching, over all of them.
use Rattle.std.specs.Prelude.{◌≡◌, ℕ, suc, ◌+◌, ◌-◌, ◌↔◌, Bool, true, ◌&&◌, not, List, [], ◌∷◌, IsTrue}
use Rattle.patterns.specs.CharSet.{has, are_ranges, is_range, is_scalar, set_of, complement_of, count_below}
use Rattle.patterns.specs.Tree.{Tree}
use Rattle.patterns.specs.Match.{IsFoundIn}
use Rattle.patterns.specs.Decision.{finds}

-- each range is one of characters
abbrev pub every_range : List (ℕ × ℕ) → Bool
every_range [] = true
every_range (r ∷ rs) = is_range r && every_range rs

-- the relation and the test agree
abbrev pub FoundIsDecided : Type 0
FoundIsDecided = (t : Tree) (w : List ℕ) → IsTrue (finds t w) ↔ IsFoundIn w t

-- sets with the same members are one list of ranges
abbrev pub SetIsItsMembers : Type 0
SetIsItsMembers =
    (s t : List (ℕ × ℕ)) → are_ranges 0 s ≡ true → are_ranges 0 t ≡ true → ((c : ℕ) → has s c ≡ has t c) → s ≡ t

abbrev pub UnionHasBoth : Type 0
UnionHasBoth =
    (rs : List (ℕ × ℕ)) → every_range rs ≡ true
    → (are_ranges 0 (set_of rs) ≡ true) × ((c : ℕ) → has (set_of rs) c ≡ has rs c)

abbrev pub ComplementHasTheRest : Type 0
ComplementHasTheRest =
    (s : List (ℕ × ℕ)) → are_ranges 0 s ≡ true
    → (are_ranges 0 (complement_of s) ≡ true) ×
    ((c : ℕ) → has (complement_of s) c ≡ is_scalar c && not (has s c))

-- how many numbers the ranges have, range by range
abbrev pub width_of : List (ℕ × ℕ) → ℕ
width_of [] = 0
width_of (r ∷ rs) = suc r.1 - r.0 + width_of rs

abbrev pub WidthIsTheCount : Type 0
WidthIsTheCount = (s : List (ℕ × ℕ)) → are_ranges 0 s ≡ true → width_of s ≡ count_below (has s) 0x110000
