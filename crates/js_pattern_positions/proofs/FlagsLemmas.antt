-- Flags of a list that is filled from the front.
use Rattle.std.proofs.Common.{◌≡◌, ℕ, zero, suc, ◌≤◌, Bool, true, false, List, [], ◌∷◌, length, refl, sym, ◌∙◌, ap, zero-add, arith}
use Rattle.word_states.specs.PatternState.{numbers_from}
use Rattle.state_laws.proofs.Flags.{numbers_flag}
use Rattle.state_laws.specs.Flow.{flag_at, is_among}

-- ---- flags that say the same
pub numbers-same : (k : ℕ) (xs ys : List Bool) → ((p : ℕ) → flag_at xs p ≡ flag_at ys p)
    → numbers_from k xs ≡ numbers_from k ys
numbers-same k [] [] h = refl
numbers-same k [] (true ∷ ys) h = absurd (cc (h 0))
numbers-same k [] (false ∷ ys) h = numbers-same (suc k) [] ys (λ p. h (suc p))
numbers-same k (true ∷ xs) [] h = absurd (cc (h 0))
numbers-same k (false ∷ xs) [] h = numbers-same (suc k) xs [] (λ p. h (suc p))
numbers-same k (true ∷ xs) (true ∷ ys) h = ap (λ ns. k ∷ ns) (numbers-same (suc k) xs ys (λ p. h (suc p)))
numbers-same k (true ∷ xs) (false ∷ ys) h = absurd (cc (h 0))
numbers-same k (false ∷ xs) (true ∷ ys) h = absurd (cc (h 0))
numbers-same k (false ∷ xs) (false ∷ ys) h = numbers-same (suc k) xs ys (λ p. h (suc p))

pub among-flag : (bs : List Bool) (p : ℕ) → is_among (numbers_from 0 bs) p ≡ flag_at bs p
among-flag bs p = sym (ap (is_among (numbers_from 0 bs)) (zero-add p)) ∙ numbers_flag 0 p bs

pub flags-same : (xs ys : List Bool) → numbers_from 0 xs ≡ numbers_from 0 ys → (p : ℕ) → flag_at xs p ≡ flag_at ys p
flags-same xs ys e p = sym (among-flag xs p) ∙ ap (λ ns. is_among ns p) e ∙ among-flag ys p

-- no flag is set beyond the list
pub flag_at-beyond : (xs : List Bool) (p : ℕ) → length xs ≤ p → flag_at xs p ≡ false
flag_at-beyond [] p h = refl
flag_at-beyond (b ∷ xs) zero h = absurd (omega (arith, h))
flag_at-beyond (b ∷ xs) (suc p) h = flag_at-beyond xs p (omega (arith, h))
