-- The words of a branch with one cell that has none.
use Rattle.std.proofs.Common.{◌≡◌, ℕ, zero, suc, List, [], ◌∷◌, take, refl}
use Rattle.alternatives.specs.Slots.{cell_at}

-- a cell without words gives none, however many are requested
pub no_words : (cell count : ℕ) → [] ≡ take count (cell_at ([] ∷ []) cell)
no_words zero zero = refl
no_words zero (suc n) = refl
no_words (suc c) zero = refl
no_words (suc c) (suc n) = refl
