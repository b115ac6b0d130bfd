-- The members of a set in the order in which words are made, one after another.
use Rattle.std.specs.Prelude.{◌≡◌, ◌≤◌, ℕ, true, false, List, Option, Some, None}
use Rattle.patterns.specs.CharSet.{has, is_within, group_of, comes_no_later}

-- e comes after c
abbrev pub ComesAfter : ℕ → ℕ → Type 0
ComesAfter e c = comes_no_later e c ≡ false

-- the first member of a set that comes after a character, or none where no member does
abbrev pub NextAfter : List (ℕ × ℕ) → ℕ → Option ℕ → Type 0
NextAfter set c None = (e : ℕ) → ComesAfter e c → has set e ≡ false
NextAfter set c (Some d) =
    (has set d ≡ true) × ComesAfter d c
    × ((e : ℕ) → ComesAfter e c → has set e ≡ true → comes_no_later d e ≡ true)

-- a span, from its first to its last character, lies in one group, so its characters come by their numbers
abbrev pub IsOneGroup : ℕ × ℕ → Type 0
IsOneGroup span = (e : ℕ) → is_within span e ≡ true → group_of e ≡ group_of span.0

-- the first member in a span that comes after a character, or none where no member there does
abbrev pub NextWithin : List (ℕ × ℕ) → ℕ → ℕ × ℕ → Option ℕ → Type 0
NextWithin set c span None = (e : ℕ) → is_within span e ≡ true → ComesAfter e c → has set e ≡ false
NextWithin set c span (Some d) =
    (has set d ≡ true) × (is_within span d ≡ true) × ComesAfter d c
    × ((e : ℕ) → is_within span e ≡ true → ComesAfter e c → has set e ≡ true → d ≤ e)
