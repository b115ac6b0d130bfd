-- Numbers of rows that rise step by step up to a bound, each step a function of the one before, rise no more after as
-- many steps as rows times the bound.
use Rattle.std.proofs.Common.{◌≡◌, ℕ, zero, suc, ◌+◌, ◌*◌, ◌-◌, ◌<◌, ◌≤◌, ◌⊎◌, inl, inr, sym, subst, arith, zero-add, suc-add}
use Rattle.std.proofs.lemmas.Bool.{cases_eq}

-- f 0 + .. + f (n - 1)
abbrev pub sum_to : ℕ → (ℕ → ℕ) → ℕ
sum_to zero f = 0
sum_to (suc n) f = f n + sum_to n f

sum_le : (n : ℕ) (f g : ℕ → ℕ) → ((r : ℕ) → r < n → f r ≤ g r) → sum_to n f ≤ sum_to n g
sum_le zero f g h = omega arith
sum_le (suc n) f g h = omega (arith, h n (omega arith), sum_le n f g (λ r l. h r (omega (arith, l))))

sum_bound : (n b : ℕ) (f : ℕ → ℕ) → ((r : ℕ) → r < n → f r ≤ b) → sum_to n f ≤ n * b
sum_bound zero b f h = omega arith
sum_bound (suc n) b f h =
    let a = h n (omega arith) in
    let c = sum_bound n b f (λ r l. h r (omega (arith, l))) in
    grind (arith, a, c)

-- all are the same, or the sum is more
sum_more : (n : ℕ) (f g : ℕ → ℕ) → ((r : ℕ) → r < n → f r ≤ g r)
    → ((r : ℕ) → r < n → g r ≡ f r) ⊎ (sum_to n f < sum_to n g)
sum_more zero f g h = inl (λ r l. absurd (omega (arith, l)))
sum_more (suc n) f g h = elim (cases_eq (g n) (f n)) [
  | inr ne ↦ inr (omega (arith, ne, h n (omega arith), sum_le n f g (λ r l. h r (omega (arith, l)))))
  | inl e ↦ elim (sum_more n f g (λ r l. h r (omega (arith, l)))) [
    | inr more ↦ inr (omega (arith, e, more))
    | inl same ↦ inl (λ r l. elim (cases_eq r n) [
      | inl q ↦ subst (λ z. g z ≡ f z) (sym q) e
      | inr ne ↦ same r (omega (arith, l, ne))
    ])
  ]
]

module _ (rows bound : ℕ) (at : ℕ → ℕ → ℕ)
    (rises : (n r : ℕ) → r < rows → at n r ≤ at (suc n) r)
    (bounded : (n r : ℕ) → r < rows → at n r ≤ bound)
    (known : (m n : ℕ) → ((r : ℕ) → r < rows → at m r ≡ at n r) → (r : ℕ) → r < rows → at (suc m) r ≡ at (suc n) r)
  where
    abbrev IsSettled : ℕ → Type 0
    IsSettled n = (r : ℕ) → r < rows → at (suc n) r ≡ at n r

    stays : (n k : ℕ) → IsSettled n → IsSettled (k + n)
    stays n zero s = subst IsSettled (sym (zero-add n)) s
    stays n (suc k) s = subst IsSettled (sym (suc-add k n)) (λ r l. known (suc (k + n)) (k + n) (stays n k s) r l)

    by_then : (n : ℕ) → ((i : ℕ) × (i ≤ n) × IsSettled i) ⊎ (n < sum_to rows (at (suc n)))
    by_then zero = elim (sum_more rows (at 0) (at 1) (λ r l. rises 0 r l)) [
      | inl same ↦ inl (0, omega arith, same)
      | inr more ↦ inr (omega (arith, more))
    ]
    by_then (suc n) = elim (by_then n) [
      | inl (i, l, s) ↦ inl (i, omega (arith, l), s)
      | inr h ↦ elim (sum_more rows (at (suc n)) (at (suc (suc n))) (λ r l. rises (suc n) r l)) [
        | inl same ↦ inl (suc n, omega arith, same)
        | inr more ↦ inr (omega (arith, h, more))
      ]
    ]

    -- after as many steps as rows times the bound the numbers rise no more
    pub settled : (n : ℕ) → rows * bound ≤ n → IsSettled n
    settled n l = elim (by_then (rows * bound)) [
      | inl (i, h, s) ↦ subst IsSettled (minus n i h l) (stays i (n - i) s)
      | inr h ↦ let b = sum_bound rows bound (at (suc (rows * bound))) (λ r l. bounded (suc (rows * bound)) r l) in
          absurd (omega (arith, h, b))
    ] where
      minus : (n i : ℕ) → i ≤ rows * bound → rows * bound ≤ n → n - i + i ≡ n
      minus n i h l = omega (arith, h, l)
