-- Tables of marks.
use Rattle.std.proofs.Common.{◌≡◌, ℕ, zero, suc, ◌<◌, List, [], ◌∷◌, length, Bool, true, false, slice_set, refl, ap, arith, true≢false}
use Rattle.js_match.specs.Places.{marked, unmarked}

-- a place that is marked newly leaves one place less without a mark
pub unmarked-set : (bs : List Bool) (i : ℕ) → i < length bs → marked bs i ≡ false
    → suc (unmarked (slice_set bs i true)) ≡ unmarked bs
unmarked-set [] i l h = absurd (omega (arith, l))
unmarked-set (true ∷ bs) zero l h = absurd (true≢false h)
unmarked-set (false ∷ bs) zero l h = refl
unmarked-set (true ∷ bs) (suc i) l h = unmarked-set bs i (omega (arith, l)) h
unmarked-set (false ∷ bs) (suc i) l h = ap suc (unmarked-set bs i (omega (arith, l)) h)
