-- As many rounds as there are goals suffice.
use Rattle.std.proofs.Common.{◌≡◌, ℕ, zero, suc, ◌+◌, ◌-◌, ◌≤◌, ◌<◌, ◌⊎◌, inl, inr, List, [], Bool, true, false, cond, nat_lt, length, refl, ap, sym, ◌∙◌, subst, arith, suc-add}
use Rattle.std.proofs.lemmas.Bool.{cases_lt}
use Rattle.std.proofs.lemmas.Option.{slice_get_past}
use Rattle.documents.specs.Tests.{some}
use Rattle.goals.specs.Signed.{Signed}
use Rattle.alternatives.specs.Expansion.{Expansion}
use Rattle.search.specs.Explored.{Found}
use Rattle.search.specs.Rounds.{is_met, alternatives_at, round}
use Rattle.search_laws.proofs.Rise.{rises, still}

abbrev count : ℕ → (ℕ → Bool) → ℕ
count zero p = 0
count (suc n) p = cond (p n) 1 0 + count n p

bit : (a b : Bool) → (a ≡ true → b ≡ true) → cond a 1 0 ≤ cond b 1 0
bit true true h = omega arith
bit true false h = cc (h refl)
bit false true h = omega arith
bit false false h = omega arith

bit_none : (b : Bool) → b ≡ false → cond b 1 0 ≤ 0
bit_none true e = cc
bit_none false e = omega arith

bit_one : (b : Bool) → b ≡ true → 1 ≤ cond b 1 0
bit_one true e = omega arith
bit_one false e = cc

count_more : (n : ℕ) (p q : ℕ → Bool) → ((g : ℕ) → p g ≡ true → q g ≡ true) → count n p ≤ count n q
count_more zero p q h = omega arith
count_more (suc n) p q h = omega (arith, bit (p n) (q n) (h n), count_more n p q h)

count_new : (n : ℕ) (p q : ℕ → Bool) → ((g : ℕ) → p g ≡ true → q g ≡ true) → (g : ℕ) → g < n → p g ≡ false
    → q g ≡ true → count n p < count n q
count_new zero p q h g l e f = absurd (omega (arith, l))
count_new (suc n) p q h g l e f = go (cases_lt g n) (count_new n p q h g) where
  go : (g < n) ⊎ (n ≤ g) → (g < n → p g ≡ false → q g ≡ true → count n p < count n q)
      → cond (p n) 1 0 + count n p < cond (q n) 1 0 + count n q
  go (inl k) more = omega (arith, bit (p n) (q n) (h n), more k e f)
  go (inr k) more =
      let s : g ≡ n = omega (arith, k, l) in
      let a = bit_none (p n) (sym (ap p s) ∙ e) in
      let b = bit_one (q n) (sym (ap q s) ∙ f) in
      omega (arith, a, b, count_more n p q h)

count_most : (n : ℕ) (p : ℕ → Bool) → count n p ≤ n
count_most zero p = omega arith
count_most (suc n) p = go (p n) (count_most n p) where
  go : (b : Bool) → count n p ≤ n → cond b 1 0 + count n p ≤ suc n
  go true l = omega (arith, l)
  go false l = omega (arith, l)

-- below n the tests agree, or one picks a number that the other doesn't
agree_or : (n : ℕ) (p q : ℕ → Bool) → ((g : ℕ) → p g ≡ true → q g ≡ true)
    → ((g : ℕ) → g < n → q g ≡ p g) ⊎ ((g : ℕ) × (g < n) × (p g ≡ false) × (q g ≡ true))
agree_or zero p q h = inl (λ g l. absurd (omega (arith, l)))
agree_or (suc n) p q h = go (p n) (q n) refl refl (agree_or n p q h) where
  Both : ℕ → Type 0
  Both m = ((g : ℕ) → g < m → q g ≡ p g) ⊎ ((g : ℕ) × (g < m) × (p g ≡ false) × (q g ≡ true))

  same : q n ≡ p n → ((g : ℕ) → g < n → q g ≡ p g) → (g : ℕ) → g < suc n → q g ≡ p g
  same e more g l = by (cases_lt g n) where
    by : (g < n) ⊎ (n ≤ g) → q g ≡ p g
    by (inl k) = more g k
    by (inr k) = let s : n ≡ g = omega (arith, k, l) in subst (λ m. q m ≡ p m) s e

  keep : q n ≡ p n → ((g : ℕ) → g < n → q g ≡ p g) ⊎ ((g : ℕ) × (g < n) × (p g ≡ false) × (q g ≡ true))
      → ((g : ℕ) → g < suc n → q g ≡ p g) ⊎ ((g : ℕ) × (g < suc n) × (p g ≡ false) × (q g ≡ true))
  keep e (inl more) = inl (same e more)
  keep e (inr (g, l, x, y)) = inr (g, omega (arith, l), x, y)

  go : (a b : Bool) → p n ≡ a → q n ≡ b
      → ((g : ℕ) → g < n → q g ≡ p g) ⊎ ((g : ℕ) × (g < n) × (p g ≡ false) × (q g ≡ true))
      → ((g : ℕ) → g < suc n → q g ≡ p g) ⊎ ((g : ℕ) × (g < suc n) × (p g ≡ false) × (q g ≡ true))
  go true true a b more = keep (b ∙ sym a) more
  go true false a b more = let x = h n a in cc
  go false false a b more = keep (b ∙ sym a) more
  go false true a b more = inr (n, omega arith, a, b)

module _ (expansion : List Signed → Expansion) (f : Found) where
  abbrev Round : ℕ → ℕ → Bool
  Round r n = round expansion f r n

  pub past : (r n : ℕ) → length f.goals ≤ n → Round r n ≡ false
  past zero n l = refl
  past (suc r) n l =
      ap (λ o. some (is_met (round expansion f r)) (cond (nat_lt n f.taken) (alternatives_at expansion f o) []))
      (slice_get_past f.goals n l)
      ∙ none (nat_lt n f.taken)
    where
      none : (b : Bool) → some (is_met (round expansion f r)) (cond b [] []) ≡ false
      none true = refl
      none false = refl

  everywhere : (r : ℕ) → ((n : ℕ) → n < length f.goals → Round (suc r) n ≡ Round r n) → (n : ℕ)
      → Round (suc r) n ≡ Round r n
  everywhere r h n = go (cases_lt n (length f.goals)) where
    go : (n < length f.goals) ⊎ (length f.goals ≤ n) → Round (suc r) n ≡ Round r n
    go (inl l) = h n l
    go (inr l) = past (suc r) n l ∙ sym (past r n l)

  -- some round before this one adds no goal, or this one has as many goals as its number
  stage : (r : ℕ) → ((q : ℕ) × (q < r) × ((n : ℕ) → Round (suc q) n ≡ Round q n))
      ⊎ (r ≤ count (length f.goals) (Round r))
  stage zero = inr (omega arith)
  stage (suc r) = go (stage r) (agree_or (length f.goals) (Round r) (Round (suc r)) (rises expansion f r)) where
    go : ((q : ℕ) × (q < r) × ((n : ℕ) → Round (suc q) n ≡ Round q n)) ⊎ (r ≤ count (length f.goals) (Round r))
        → ((n : ℕ) → n < length f.goals → Round (suc r) n ≡ Round r n)
        ⊎ ((n : ℕ) × (n < length f.goals) × (Round r n ≡ false) × (Round (suc r) n ≡ true))
        → ((q : ℕ) × (q < suc r) × ((n : ℕ) → Round (suc q) n ≡ Round q n))
        ⊎ (suc r ≤ count (length f.goals) (Round (suc r)))
    go (inl (q, l, h)) o = inl (q, omega (arith, l), h)
    go (inr l) (inl h) = inl (r, omega arith, everywhere r h)
    go (inr l) (inr (n, k, x, y)) =
        let m = count_new (length f.goals) (Round r) (Round (suc r)) (rises expansion f r) n k x y in
        inr (omega (arith, l, m))

  rise_by : (k r n : ℕ) → Round r n ≡ true → Round (k + r) n ≡ true
  rise_by zero r n e = subst (λ z. Round z n ≡ true) (omega arith) e
  rise_by (suc k) r n e =
      subst (λ z. Round z n ≡ true) (sym (suc-add k r)) (rises expansion f (k + r) n (rise_by k r n e))

  -- later rounds have the goals of earlier ones
  pub rise_to : (r m n : ℕ) → r ≤ m → Round r n ≡ true → Round m n ≡ true
  rise_to r m n l e = subst (λ z. Round z n ≡ true) (omega (arith, l)) (rise_by (m - r) r n e)

  -- a goal that some round has is in the round whose number is that of all goals
  pub settled : (r n : ℕ) → Round r n ≡ true → Round (length f.goals) n ≡ true
  settled r n e = go (stage (suc (length f.goals))) (cases_lt (length f.goals) r) where
    go : ((q : ℕ) × (q < suc (length f.goals)) × ((n : ℕ) → Round (suc q) n ≡ Round q n))
        ⊎ (suc (length f.goals) ≤ count (length f.goals) (Round (suc (length f.goals))))
        → (length f.goals < r) ⊎ (r ≤ length f.goals) → Round (length f.goals) n ≡ true
    go (inr l) o = absurd (omega (arith, l, count_most (length f.goals) (Round (suc (length f.goals)))))
    go (inl (q, l, h)) (inr k) = rise_to r (length f.goals) n k e
    go (inl (q, l, h)) (inl k) =
        let s : (r - q) + q ≡ r = omega (arith, l, k) in
        rise_to q (length f.goals) n (omega (arith, l))
        (sym (still expansion f q h (r - q) n) ∙ ap (λ z. Round z n) s ∙ e)
