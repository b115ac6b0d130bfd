-- The k-th word of the list, found by counts: first its length, and then letter by letter.
use Rattle.std.proofs.Common.{◌≡◌, ℕ, zero, suc, ◌-◌, ◌≤◌, ◌<◌, ◌⊎◌, inl, inr, List, [], ◌++◌, get_or, Bool, ap, sym, ◌∙◌, subst, arith}
use Rattle.std.proofs.lemmas.Bool.{cases_eq}
use Rattle.std.proofs.lemmas.List.{get_or_append_left}
use Rattle.std.proofs.Math.Seq.{get_or-append_right}
use Rattle.cell_laws.specs.FirstWords.{of_length, shorter, count_of, word_at}
use Rattle.cell_laws.proofs.Ranks.{word_is}
use Rattle.cell_laws.specs.Counting.{count}
use Rattle.cell_laws.proofs.Settled.{count_is}

module _ (letters : List ℕ) (to : ℕ → ℕ → ℕ) (in_cell : ℕ → Bool) where
  count_rises : (m n r : ℕ) → m ≤ n → count letters to in_cell m r ≤ count letters to in_cell n r
  count_rises m zero r l = let e : m ≡ 0 =
      omega (arith, l) in subst (λ z. count letters to in_cell z r ≤ 0) (sym e) (omega arith)
  count_rises m (suc n) r l = elim (cases_eq m (suc n)) [
    | inl e ↦ subst (λ z. count letters to in_cell z r ≤ count letters to in_cell (suc n) r) (sym e) (omega arith)
    | inr ne ↦ let h = count_rises m n r (omega (arith, l, ne)) in omega (arith, h)
  ]

  -- counts by length may be cut at a bound above what is looked for
  module _ (counts : ℕ → ℕ → ℕ) (bound : ℕ)
      (cut : (m r : ℕ) → (counts m r ≡ count_of letters to in_cell m r)
      ⊎ ((counts m r ≡ bound) × (bound ≤ count_of letters to in_cell m r))) where
    -- the k-th word of the list, whose length m the counts give, is the one that is built letter by letter
    pub nth : (n m r k : ℕ) → m < n → count letters to in_cell m r ≤ k → k < count letters to in_cell (suc m) r
        → k - count letters to in_cell m r < bound
        → get_or (shorter letters to in_cell n r) k [] ≡ word_at letters to counts m r
        (k - count letters to in_cell m r)
    nth zero m r k l a b c = absurd (omega (arith, l))
    nth (suc n) m r k l a b c = elim (cases_eq m n) [
      | inl e ↦ subst
          (λ z. get_or (shorter letters to in_cell z r ++ of_length letters to in_cell z r) k [] ≡ word_at letters to
          counts m r (k - count letters to in_cell m r)) e here
      | inr ne ↦
          let h = count_rises (suc m) n r (omega (arith, l, ne)) in
          let q = count_is letters to in_cell n r in
          get_or_append_left (shorter letters to in_cell n r) (of_length letters to in_cell n r) [] k
          (omega (arith, h, q, b))
          ∙ nth n m r k (omega (arith, l, ne)) a b c
    ] where
      here : get_or (shorter letters to in_cell m r ++ of_length letters to in_cell m r) k [] ≡ word_at letters to
          counts m r (k - count letters to in_cell m r)
      here =
          let q = count_is letters to in_cell m r in
          get_or-append_right (shorter letters to in_cell m r) (of_length letters to in_cell m r) k []
          (omega (arith, q, a))
          ∙ ap (λ z. get_or (of_length letters to in_cell m r) (k - z) []) q
          ∙ word_is letters to in_cell counts bound cut m r (k - count letters to in_cell m r) c (omega (arith, a, b))
