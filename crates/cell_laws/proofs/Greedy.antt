-- The first word of a cell, letter by letter. Distances to the cell that no relaxation lowers are the lengths of
-- shortest words; so the first letter whose target is nearer begins the first word.
use Rattle.std.proofs.Common.{◌≡◌, ℕ, suc, ◌≤◌, ◌<◌, ◌⊎◌, inl, inr, List, [], ◌∷◌, Bool, length, ap, sym, subst, arith}
use Rattle.cell_laws.specs.Leading.{Leads}
use Rattle.cell_laws.specs.FirstWords.{IsRelaxed, IsLeast}
use Rattle.cell_laws.proofs.WordLaws as F
use Rattle.std.proofs.Common.{◌++◌}
use Rattle.list_laws.specs.In.{IsIn}
use Rattle.list_laws.proofs.Numbers.{three_ways}

module _ (rank : ℕ → ℕ) (letters : List ℕ) (to : ℕ → ℕ → ℕ) (in_cell : ℕ → Bool) (rows : ℕ) (far : ℕ → ℕ)
    (closed : (r c : ℕ) → r < rows → IsIn c letters → to r c < rows)
    (relaxed : IsRelaxed rows letters to in_cell far) where
  -- a relaxed label with a word of its length is the length of the shortest word
  pub least : (r : ℕ) → r < rows → (w : List ℕ) → length w ≡ far r → Leads letters to in_cell r w
      → IsLeast letters to in_cell r (far r)
  least r l w e h = ((w, e, h), λ v k. F.no_shorter rank letters to in_cell rows far closed relaxed r v l k)

  -- a row that isn't in the cell, with such a word, has a letter whose target is nearer
  pub nearer : (r : ℕ) → r < rows → (w : List ℕ) → length w ≡ far r → Leads letters to in_cell r w
      → (far r ≡ 0)
      ⊎ ((c : ℕ) × IsIn c letters × (far r ≡ suc (far (to r c)))
      × ((v : List ℕ) × (length v ≡ far (to r c)) × Leads letters to in_cell (to r c) v))
  nearer r l [] e h = inl (omega (arith, e))
  nearer r l (c ∷ w) e h =
      let a : far (to r c) ≤ length w =
      F.no_shorter rank letters to in_cell rows far closed relaxed (to r c) w (closed r c l h.0.0) (h.0.1, h.1) in
      let b : far r ≤ suc (far (to r c)) = (relaxed r l).1 c h.0.0 in
      inr (c, h.0.0, omega (arith, a, b, e), (w, omega (arith, a, b, e), (h.0.1, h.1)))

  -- classes numbered by their first characters: the first character of the first class whose target is nearer is the
  -- first such character
  pub first_class : (class first : ℕ → ℕ) (target : ℕ → ℕ → ℕ) → ((r c : ℕ) → to r c ≡ target r (class c))
      → ((c : ℕ) → IsIn c letters → rank (first (class c)) ≤ rank c)
      → ((j k : ℕ) → j < k → rank (first j) < rank (first k))
      → (r k : ℕ) → ((j : ℕ) → j < k → far r ≤ far (target r j)) → (b : ℕ) → IsIn b letters → rank b < rank (first k)
      → far r ≤ far (to r b)
  first_class class first target is low rise r k none b i l =
      subst (λ z. far r ≤ far z) (sym (is r b)) (none (class b) (before (three_ways k (class b)))) where
        before : (k < class b) ⊎ ((k ≡ class b) ⊎ (class b < k)) → class b < k
        before (inl m) = let a = low b i in let c = rise k (class b) m in absurd (omega (arith, a, c, l))
        before (inr (inl m)) = let a = low b i in let c : rank (first k) ≡ rank (first (class b)) =
            ap (λ z. rank (first z)) m in absurd (omega (arith, a, c, l))
        before (inr (inr m)) = m
