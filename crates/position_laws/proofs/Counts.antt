-- How many numbers below a bound pass a test: at most the bound, and more where a test lets more through.
use Rattle.std.proofs.Common.{◌≡◌, ℕ, zero, suc, ◌+◌, ◌<◌, ◌≤◌, inl, inr, Bool, true, false, cond, refl, subst, arith}
use Rattle.std.proofs.lemmas.Bool.{cases_eq}

abbrev counted : Bool → ℕ
counted b = cond b 1 0

-- the count of the numbers below n that pass
abbrev pub passing : (ℕ → Bool) → ℕ → ℕ
passing p zero = 0
passing p (suc n) = counted (p n) + passing p n

counted-bound : (b : Bool) → counted b ≤ 1
counted-bound true = omega arith
counted-bound false = omega arith

counted-rises : (a b : Bool) → (a ≡ true → b ≡ true) → counted a ≤ counted b
counted-rises true true f = omega arith
counted-rises true false f = cc (f refl)
counted-rises false true f = omega arith
counted-rises false false f = omega arith

pub passing-bound : (p : ℕ → Bool) (n : ℕ) → passing p n ≤ n
passing-bound p zero = omega arith
passing-bound p (suc n) = omega (arith, passing-bound p n, counted-bound (p n))

module _ (p q : ℕ → Bool) (more : (k : ℕ) → p k ≡ true → q k ≡ true) where
  pub passing-rises : (n : ℕ) → passing p n ≤ passing q n
  passing-rises zero = omega arith
  passing-rises (suc n) = omega (arith, passing-rises n, counted-rises (p n) (q n) (more n))

  -- strictly, where a number below the bound passes the second test alone
  pub passing-less : (n k : ℕ) → k < n → p k ≡ false → q k ≡ true → passing p n < passing q n
  passing-less zero k l a b = absurd (omega arith)
  passing-less (suc n) k l a b =
      elim (cases_eq k n) [
        | inl e ↦
            let no : p n ≡ false = subst (λ i. p i ≡ false) e a in
            let yes : q n ≡ true = subst (λ i. q i ≡ true) e b in
            let rest : passing p n ≤ passing q n = passing-rises n in
            rw (no, yes) (omega arith)
        | inr ne ↦ omega (arith, passing-less n k (omega (arith, ne)) a b, counted-rises (p n) (q n) (more n))
      ]
