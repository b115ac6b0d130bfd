-- The least number below a limit that passes a test.
use Rattle.std.proofs.Common.{◌≡◌, ℕ, zero, suc, ◌<◌, Bool, true, false, ◌⊎◌, inl, inr, refl, ap, ◌∙◌, arith}
use Rattle.number_groups.specs.Multiples.{least_below}

step : (test : ℕ → Bool) (n : ℕ) (b : Bool) → test 0 ≡ b
    → least_below test (suc n) ≡ (elim b [ true ↦ 0 | false ↦ suc (least_below (λ k. test (suc k)) n) ])
unfolding least_below
step test n b e =
    ap (λ t. elim t as (λ _. ℕ) [ true ↦ 0 | false ↦ suc (least_below (λ k. test (suc k)) n) ]) e

-- the number that passes where none before it does
pub least_below-at : (test : ℕ → Bool) (n k : ℕ) → k < n → test k ≡ true → ((j : ℕ) → j < k → test j ≡ false)
    → least_below test n ≡ k
least_below-at test zero k l e before = absurd (omega arith)
least_below-at test (suc n) zero l e before = step test n true e
least_below-at test (suc n) (suc k) l e before =
    step test n false (before 0 (omega arith))
    ∙ ap suc (least_below-at (λ j. test (suc j)) n k (omega arith) e (λ j h. before (suc j) (omega arith)))

-- the limit where none below it passes
pub least_below-none : (test : ℕ → Bool) (n : ℕ) → ((j : ℕ) → j < n → test j ≡ false) → least_below test n ≡ n
unfolding least_below
least_below-none test zero before = refl
least_below-none test (suc n) before =
    step test n false (before 0 (omega arith))
    ∙ ap suc (least_below-none (λ j. test (suc j)) n (λ j h. before (suc j) (omega arith)))

after : (test : ℕ → Bool) (k : ℕ) → test 0 ≡ false → ((j : ℕ) → j < k → test (suc j) ≡ false)
    → (j : ℕ) → j < suc k → test j ≡ false
after test k e h zero l = e
after test k e h (suc j) l = h j (omega arith)

-- what is known of the number, by whether one passes
abbrev IsLeastBelow : (ℕ → Bool) → ℕ → Type 0
IsLeastBelow test n =
    ((k : ℕ) × (k < n) × (test k ≡ true) × ((j : ℕ) → j < k → test j ≡ false) × (least_below test n ≡ k))
    ⊎ (((j : ℕ) → j < n → test j ≡ false) × (least_below test n ≡ n))

below : (test : ℕ → Bool) (n : ℕ) (b : Bool) → test 0 ≡ b → IsLeastBelow (λ k. test (suc k)) n
    → IsLeastBelow test (suc n)
below test n true e h = inl (0, omega arith, e, λ j h. absurd (omega arith), step test n true e)
below test n false e (inl w) =
    inl (suc w.0, omega arith, w.2, after test w.0 e w.3, step test n false e ∙ ap suc w.4)
below test n false e (inr w) = inr (after test n e w.0, step test n false e ∙ ap suc w.1)

pub least_below-cases : (test : ℕ → Bool) (n : ℕ) → IsLeastBelow test n
least_below-cases test zero =
    inr (λ j h. absurd (omega arith), least_below-none test zero (λ j h. absurd (omega arith)))
least_below-cases test (suc n) = below test n (test 0) refl (least_below-cases (λ k. test (suc k)) n)
