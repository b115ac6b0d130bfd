-- Pieces: the characters between two places where a divider may begin or end.
use Rattle.std.specs.Prelude.{◌≡◌, ◌<◌, ◌≤◌, ◌+◌, ℕ, List, Bool, true, ◌&&◌, not, nat_eq, nat_le, if◌then◌else◌, length, get_or}
use Rattle.std.specs.List.{Contains}
use Rattle.std.specs.Cmp.{IsEquivalence}
use Rattle.patterns.specs.CharSet.{has, is_scalar, is_range}
use Rattle.word_states.specs.Classes.{are_alike}

-- no place lies between the characters, or at the later one
abbrev pub AreTogether : List ℕ → ℕ → ℕ → Type 0
AreTogether places c d =
    (c < 0x110000) × (d < 0x110000) × ((x : ℕ) → Contains places x → nat_le x c ≡ nat_le x d)

-- these are one letter, or no letters
abbrev pub are_same_letter : List (ℕ × ℕ) → ℕ → ℕ → Bool
are_same_letter letters c d = if has letters c then nat_eq c d else not (has letters d)

-- no letter distinguishes the characters, and no set
abbrev pub are_like : List (List (ℕ × ℕ)) → List (ℕ × ℕ) → ℕ → ℕ → Bool
are_like sets letters c d = are_same_letter letters c d && are_alike sets c d

-- all of the places stay
abbrev pub AreKept : List ℕ → List ℕ → Type 0
AreKept old new = (x : ℕ) → Contains old x → Contains new x

-- there is a place wherever the set begins or ends
abbrev pub HasEnds : List ℕ → List (ℕ × ℕ) → Type 0
HasEnds places set = (c d : ℕ) → AreTogether places c d → has set c ≡ has set d

-- there is a place at each of the characters, and one after it
abbrev pub HasEach : List ℕ → (ℕ → Bool) → Type 0
HasEach places test = (c d : ℕ) → AreTogether places c d → test c ≡ true → c ≡ d

-- each number is below all later ones
abbrev pub AreRising : List ℕ → Type 0
AreRising xs = (i j : ℕ) → i < j → j < length xs → get_or xs i 0 < get_or xs j 0

-- the test holds of characters between which no place lies; characters end at a place, and so do surrogates
pub record ArePlaces (places : List ℕ) (test : ℕ → ℕ → Bool) : Type 0 where
  pub first : Contains places 0
  pub low : Contains places 0xd800
  pub high : Contains places 0xe000
  pub end : Contains places 0x110000
  pub like : (c d : ℕ) → AreTogether places c d → test c d ≡ true

-- two pieces have one number just where the test says so of their first characters
abbrev pub AreNumbers : List ℕ → List ℕ → (ℕ → ℕ → Bool) → Type 0
AreNumbers starts numbers test =
    (length numbers ≡ length starts)
    × ((i j : ℕ) → i < length starts → j < length starts
    → nat_eq (get_or numbers i 0) (get_or numbers j 0) ≡ test (get_or starts i 0) (get_or starts j 0))

-- each piece's number says whether the set has its first character
abbrev pub AreSides : List ℕ → List ℕ → (ℕ → Bool) → Type 0
AreSides starts sides test =
    (length sides ≡ length starts)
    × ((i : ℕ) → i < length starts → get_or sides i 0 ≡ (if test (get_or starts i 0) then 1 else 0))

-- where pieces start, and their numbers, one for the pieces of each class
pub record AreNumbered (test : ℕ → ℕ → Bool) (starts marks : List ℕ) : Type 0 where
  pub laws : IsEquivalence test
  pub rising : AreRising starts
  pub places : ArePlaces starts test
  pub numbers : AreNumbers starts marks test

-- all are ranges of characters
abbrev pub AreRanges : List (ℕ × ℕ) → Type 0
AreRanges rs = (i : ℕ) → i < length rs → is_range (get_or rs i (0, 0)) ≡ true

-- the character lies in that piece
abbrev pub IsInPiece : List ℕ → ℕ → ℕ → Type 0
IsInPiece starts i d = (i + 1 < length starts) × (get_or starts i 0 ≤ d) × (d < get_or starts (i + 1) 0)

-- the ranges have the characters of the pieces of that number
abbrev pub HavePieces : List ℕ → List ℕ → ℕ → List (ℕ × ℕ) → Type 0
HavePieces starts numbers here rs =
    (k d : ℕ) → IsInPiece starts k d → has rs d ≡ (is_scalar d && nat_eq (get_or numbers k 0) here)

abbrev pub HaveNumbers : List ℕ → List ℕ → Type 0
HaveNumbers starts numbers = (test : ℕ → ℕ → Bool) × AreNumbered test starts numbers
