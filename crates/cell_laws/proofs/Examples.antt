-- Worked: two letters; a row of one word, and a row of words without end.
use Rattle.std.proofs.Common.{◌≡◌, ℕ, [], ◌∷◌, Bool, true, nat_eq, take, filter, cond, refl}
use Rattle.cell_laws.specs.FirstWords as F
use Rattle.cell_laws.specs.Leading.{walk}
use Rattle.cells.specs.WordsInOrder.{shorter}
use Rattle.cell_laws.specs.Counting.{number, number_by, asked_by}

-- 0 by a to 1, which is in the cell; 2 is left by nothing
abbrev target : ℕ → ℕ → ℕ
target r k = cond (nat_eq r 0) (cond (nat_eq k 0) 1 2) 2

abbrev class : ℕ → ℕ
class c = cond (nat_eq c 97) 0 1

abbrev to : ℕ → ℕ → ℕ
to r c = target r (class c)

abbrev only : ℕ → Bool
only r = nat_eq r 1

abbrev every_row : ℕ → Bool
every_row r = true

one_word : F.shorter (97 ∷ 98 ∷ []) to only 4 0 ≡ (97 ∷ []) ∷ []
one_word = refl

filtered : filter (λ w. only (walk to 0 w)) (shorter (97 ∷ 98 ∷ []) 4) ≡ (97 ∷ []) ∷ []
filtered = refl

numbered : number (97 ∷ 98 ∷ []) to only 3 4 0 ≡ 1
numbered = refl

by_rows : number_by 2 (λ k. 1) target only 3 4 0 ≡ 1
by_rows = refl

-- the label of the cell's row is 1, and of the other 0; they keep the rule with equality
asked_here : asked_by 2 (λ k. 1) target only (λ r. cond (nat_eq r 2) 0 1) 0 ≡ 1
asked_here = refl

asked_there : asked_by 2 (λ k. 1) target only (λ r. cond (nat_eq r 2) 0 1) 2 ≡ 0
asked_there = refl

-- cut at 3: the empty word, a, b
cut : number (97 ∷ 98 ∷ []) to every_row 3 4 0 ≡ 3
cut = refl

first_three : take 3 (F.shorter (97 ∷ 98 ∷ []) to every_row 4 0) ≡ [] ∷ (97 ∷ []) ∷ (98 ∷ []) ∷ []
first_three = refl
