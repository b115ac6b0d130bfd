-- Numbers of words of fewer than m letters, cut at a bound, no longer rise where m is rows times the bound; so they
-- are the numbers of all words, cut.
use Rattle.std.proofs.Common.{◌≡◌, ℕ, zero, suc, ◌+◌, ◌*◌, ◌≤◌, ◌<◌, ◌⊎◌, min, inl, inr, List, [], ◌∷◌, cond, Bool, length, refl, ap, ap₂, sym, ◌∙◌, subst, arith}
use Rattle.std.proofs.lemmas.List.{length-append}
use Rattle.cell_laws.specs.Leading.{HasWords, AtMost, IsCapacity, asked, IsStable}
use Rattle.list_laws.proofs.Counts.{sum_over}
use Rattle.cell_laws.proofs.Upper.{upper}
use Rattle.cell_laws.proofs.Lower as L
use Rattle.cell_laws.specs.FirstWords.{count_of, of_length, shorter}
use Rattle.cell_laws.proofs.Ranks.{counted}
use Rattle.cell_laws.proofs.Settle as S
use Rattle.cell_laws.specs.Counting.{count, number}
use Rattle.cell_laws.proofs.Sums.{sum_none, sum_plus, sum_cut, plus_cut}
use Rattle.list_laws.specs.In.{Distinct, IsIn}
use Rattle.list_laws.proofs.Numbers.{min-right}

module _ (letters : List ℕ) (to : ℕ → ℕ → ℕ) (in_cell : ℕ → Bool) where
  -- the number is the length of the list
  pub count_is : (m r : ℕ) → length (shorter letters to in_cell m r) ≡ count letters to in_cell m r
  count_is zero r = refl
  count_is (suc m) r =
      length-append (shorter letters to in_cell m r) (of_length letters to in_cell m r)
      ∙ ap₂ (λ a b. a + b) (count_is m r) (counted letters to in_cell m r)

  -- words of fewer than m + 1 letters: the empty one, and after each letter those of fewer than m
  pub count_step : (m r : ℕ)
      → count letters to in_cell (suc m) r ≡ asked letters to in_cell (count letters to in_cell m) r
  count_step zero r = let e = sum_none letters in omega (arith, e)
  count_step (suc m) r =
      let e = count_step m r in
      let f = sum_plus (λ c. count letters to in_cell m (to r c)) (λ c. count_of letters to in_cell m (to r c))
      letters in
      omega (arith, e, f)

  -- there are as many words as are counted
  pub has_count : Distinct letters → (m r : ℕ) → HasWords letters to in_cell r (count letters to in_cell m r)
  has_count d zero r = L.none letters to in_cell r
  has_count d (suc m) r =
      subst (λ k. HasWords letters to in_cell r k) (sym (count_step m r))
      (L.step letters to in_cell (count letters to in_cell m) r d (λ c. has_count d m (to r c)))

  module _ (bound : ℕ) where
    same_capacity : (a b : ℕ) → a ≤ bound → b ≤ bound → ((a ≡ bound) ⊎ (b ≤ a)) → ((b ≡ bound) ⊎ (a ≤ b)) → a ≡ b
    same_capacity a b l m (inl p) (inl q) = omega (arith, p, q)
    same_capacity a b l m (inl p) (inr q) = omega (arith, p, q, m)
    same_capacity a b l m (inr p) (inl q) = omega (arith, p, q, l)
    same_capacity a b l m (inr p) (inr q) = omega (arith, p, q)

    less : (r a b : ℕ) → HasWords letters to in_cell r b → ((a ≡ bound) ⊎ AtMost letters to in_cell r a)
        → (a ≡ bound) ⊎ (b ≤ a)
    less r a b (ws, e, d, h) (inl q) = inl q
    less r a b (ws, e, d, h) (inr m) = let l = m ws d h in inr (omega (arith, l, e))

    pub one : (r a b : ℕ) → IsCapacity letters to in_cell bound r a → IsCapacity letters to in_cell bound r b → a ≡ b
    one r a b x y = same_capacity a b x.0 y.0 (less r a b y.1 x.2) (less r b a x.1 y.2)

  module _ (rows bound : ℕ) (closed : (r c : ℕ) → r < rows → IsIn c letters → to r c < rows) where
    rises : (n r : ℕ) → r < rows → number letters to in_cell bound n r ≤ number letters to in_cell bound (suc n) r
    rises n r l = grind arith

    bounded : (n r : ℕ) → r < rows → number letters to in_cell bound n r ≤ bound
    bounded n r l = grind arith

    known : (m n : ℕ)
        → ((r : ℕ) → r < rows → number letters to in_cell bound m r ≡ number letters to in_cell bound n r)
        → (r : ℕ) → r < rows → number letters to in_cell bound (suc m) r ≡ number letters to in_cell bound (suc n) r
    known m n h r l =
        ap (λ z. min bound z) (count_step m r)
        ∙ plus_cut bound (cond (in_cell r) 1 0) (sum_over (λ c. count letters to in_cell m (to r c)) letters)
        (sum_over (λ c. count letters to in_cell n (to r c)) letters)
        (sum_cut bound (λ c. count letters to in_cell m (to r c)) (λ c. count letters to in_cell n (to r c)) letters
        (λ c i. h (to r c) (closed r c l i)))
        ∙ ap (λ z. min bound z) (sym (count_step n r))

    module _ (far : ℕ) (enough : rows * bound ≤ far) where
      pub settled : (r : ℕ) → r < rows
          → number letters to in_cell bound (suc far) r ≡ number letters to in_cell bound far r
      settled = S.settled rows bound (λ n r. number letters to in_cell bound n r) rises bounded known far enough

      sum_least : (f : ℕ → ℕ) (cs : List ℕ) → sum_over (λ c. min bound (f c)) cs ≤ sum_over f cs
      sum_least f [] = omega arith
      sum_least f (c ∷ cs) = let h = sum_least f cs in grind (arith, h)

      pub stable : IsStable rows letters to in_cell bound (number letters to in_cell bound far)
      stable r l b =
          let e = settled r l in
          let f = count_step far r in
          let g = sum_least (λ c. count letters to in_cell far (to r c)) letters in
          below bound (count letters to in_cell far r) (count letters to in_cell (suc far) r) (cond (in_cell r) 1 0)
          (sum_over (λ c. count letters to in_cell far (to r c)) letters)
          (sum_over (λ c. number letters to in_cell bound far (to r c)) letters) e f g b where
            below : (b x y a s t : ℕ) → min b y ≡ min b x → y ≡ a + s → t ≤ s → min b x < b → a + t ≤ min b x
            below b x y a s t e f g l = grind (arith, e, f, g, l)

      -- where the count is below the bound, no different words are more
      pub at_most : (r : ℕ) → r < rows → count letters to in_cell far r < bound
          → AtMost letters to in_cell r (count letters to in_cell far r)
      at_most r l b =
          let e : number letters to in_cell bound far r ≡ count letters to in_cell far r =
          min-right bound (count letters to in_cell far r) b in
          subst (λ k. AtMost letters to in_cell r k) e
          (upper rows letters to in_cell bound (number letters to in_cell bound far) closed stable r l
          (omega (arith, e, b)))

      -- the cut number is the capacity
      pub capacity : Distinct letters → (r : ℕ) → r < rows
          → IsCapacity letters to in_cell bound r (number letters to in_cell bound far r)
      capacity d r l =
          L.exact letters to in_cell rows bound (number letters to in_cell bound far) closed stable r l
          (bounded far r l)
          (L.fewer letters to in_cell r (number letters to in_cell bound far r) (count letters to in_cell far r)
          (least bound (count letters to in_cell far r)) (has_count d far r)) where
            least : (b x : ℕ) → min b x ≤ x
            least b x = grind arith

      -- there is one capacity: labels that are capacities are these numbers
      pub capacity_is : Distinct letters → (r k : ℕ) → r < rows → IsCapacity letters to in_cell bound r k
          → k ≡ number letters to in_cell bound far r
      capacity_is d r k l c = one bound r k (number letters to in_cell bound far r) c (capacity d r l)
