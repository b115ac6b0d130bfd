-- Signed positions, and lists of them as sets.
use Rattle.std.specs.Prelude.{ℕ, List, [], ◌∷◌, Bool, true, false, not, cond, ◌&&◌, nat_eq, nat_lt, nat_le}
use Rattle.documents.specs.Tests.{every, some}
use Rattle.documents.specs.Document.{Document}
use Rattle.positions.specs.Position.{Position}
use Rattle.positions.specs.Holds.{holds}

-- a position that is to hold, or not to hold
pub data Signed : Type 0 where
  Plus : ℕ → Signed
  Minus : ℕ → Signed

abbrev pub position_of : Signed → ℕ
position_of (Plus p) = p
position_of (Minus p) = p

abbrev pub opposite : Signed → Signed
opposite (Plus p) = Minus p
opposite (Minus p) = Plus p

abbrev pub same_signed : Signed → Signed → Bool
same_signed (Plus p) (Plus q) = nat_eq p q
same_signed (Minus p) (Minus q) = nat_eq p q
same_signed _ _ = false

-- by position, plus before minus
abbrev pub comes_before : Signed → Signed → Bool
comes_before (Plus p) (Plus q) = nat_lt p q
comes_before (Plus p) (Minus q) = nat_le p q
comes_before (Minus p) (Plus q) = nat_lt p q
comes_before (Minus p) (Minus q) = nat_lt p q

abbrev pub has : Signed → List Signed → Bool
has x S = some (same_signed x) S

-- into its place in a rising list, unless it is there
abbrev pub add : Signed → List Signed → List Signed
add x [] = x ∷ []
add x (y ∷ S) = cond (same_signed x y) (y ∷ S) (cond (comes_before x y) (x ∷ y ∷ S) (y ∷ add x S))

abbrev pub add_all : List Signed → List Signed → List Signed
add_all [] S = S
add_all (x ∷ C) S = add x (add_all C S)

-- strictly rising by position and sign
abbrev pub is_rising : List Signed → Bool
is_rising [] = true
is_rising (x ∷ S) = every (comes_before x) S && is_rising S

abbrev pub met : (ℕ → Bool) → Signed → Bool
met here (Plus p) = here p
met here (Minus p) = not (here p)

-- the document meets each of the signed positions
abbrev pub meets : List Position → List Signed → Document → Bool
meets T S J = every (met (λ p. holds T p J)) S
