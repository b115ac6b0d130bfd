-- The words of a branch with one cell that has one word.
use Rattle.std.proofs.Common.{◌≡◌, ◌<◌, ◌≤◌, ℕ, zero, suc, List, [], ◌∷◌, take, refl, arith, chars, codes}
use Rattle.alternatives.specs.Slots.{capacity, cell_at}

abbrev pub cells : List (List (List ℕ))
cells = (chars (codes "a") ∷ []) ∷ []

pub no_words : (cell count : ℕ) → count ≡ 0 → [] ≡ take count (cell_at cells cell)
no_words cell zero e = refl
no_words cell (suc n) e = absurd (omega (arith, e))

-- the words requested of the cell are none or the one word
pub one_word : (cell count : ℕ) → cell < 1 → count ≤ capacity (cell_at cells cell) → (count ≡ 0 → ⊥)
    → chars (codes "a") ∷ [] ≡ take count (cell_at cells cell)
one_word zero zero l k n = absurd (n refl)
one_word zero (suc zero) l k n = refl
one_word zero (suc (suc m)) l k n = absurd (omega (arith, k))
one_word (suc c) count l k n = absurd (omega (arith, l))
