-- Sets of characters. A character is a Unicode scalar value, and a set is the list of its ranges.
use Rattle.std.specs.Prelude.{ℕ, zero, suc, ◌+◌, ◌-◌, min, max, List, [], ◌∷◌, Bool, true, false, ◌&&◌, ◌||◌, nat_eq, nat_le, nat_lt, if◌then◌else◌}

-- a code point that is no surrogate
abbrev pub is_scalar : ℕ → Bool
is_scalar c = nat_lt c 0xd800 || (nat_lt 0xdfff c && nat_lt c 0x110000)

-- from the first number to the last, both included
abbrev pub is_within : ℕ × ℕ → ℕ → Bool
is_within r c = nat_le r.0 c && nat_le c r.1

-- a number lies in one of the ranges: membership of the set
abbrev pub has : List (ℕ × ℕ) → ℕ → Bool
has [] c = false
has (r ∷ rs) c = is_within r c || has rs c

-- both ends are characters, in order, and no surrogate lies between them
abbrev pub is_range : ℕ × ℕ → Bool
is_range r = nat_le r.0 r.1 && (nat_lt r.1 0xd800 || (nat_lt 0xdfff r.0 && nat_lt r.1 0x110000))

-- ranges from `low` on, in rising order, and a number between each two that is in neither: the one list of a set
abbrev pub are_ranges : ℕ → List (ℕ × ℕ) → Bool
are_ranges low [] = true
are_ranges low (r ∷ rs) = nat_le low r.0 && is_range r && are_ranges (r.1 + 2) rs

-- a set with the numbers of one more range, which swallows the ranges that it meets
abbrev pub with_range : ℕ × ℕ → List (ℕ × ℕ) → List (ℕ × ℕ)
with_range r [] = r ∷ []
with_range r (s ∷ ss) =
    if nat_lt (r.1 + 1) s.0 then r ∷ s ∷ ss
    else (if nat_lt (s.1 + 1) r.0 then s ∷ with_range r ss else with_range (min r.0 s.0, max r.1 s.1) ss)

-- the set of the numbers that lie in some range of a list in any order
abbrev pub set_of : List (ℕ × ℕ) → List (ℕ × ℕ)
set_of [] = []
set_of (r ∷ rs) = with_range r (set_of rs)

-- the numbers from `low` to the last code point that a set leaves out
abbrev pub gaps_from : ℕ → List (ℕ × ℕ) → List (ℕ × ℕ)
gaps_from low [] = if nat_lt low 0x110000 then (low, 0x10ffff) ∷ [] else []
gaps_from low (r ∷ rs) =
    if nat_lt low r.0 then (low, r.0 - 1) ∷ gaps_from (r.1 + 1) rs else gaps_from (r.1 + 1) rs

-- the characters that a set leaves out; surrogates are none
abbrev pub complement_of : List (ℕ × ℕ) → List (ℕ × ℕ)
complement_of rs = gaps_from 0 (with_range (0xd800, 0xdfff) rs)

-- how many numbers below n pass a test
unfoldable pub count_below : (ℕ → Bool) → ℕ → ℕ
count_below test zero = 0
count_below test (suc n) = if test n then suc (count_below test n) else count_below test n

-- the place of a character's group: a to z, A to Z, 0 to 9, what else ASCII prints, and the rest
abbrev pub group_of : ℕ → ℕ
group_of c =
    if is_within (97, 122) c then 0
    else (if is_within (65, 90) c then 1
    else (if is_within (48, 57) c then 2
    else (if is_within (32, 126) c then 3 else 4)))

-- the order of characters in which words are made: by group, and within a group by number
abbrev pub comes_no_later : ℕ → ℕ → Bool
comes_no_later c d = nat_lt (group_of c) (group_of d) || (nat_eq (group_of c) (group_of d) && nat_le c d)
