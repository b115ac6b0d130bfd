-- Lists without repeats, and lists of words that all lead into the cell: their fronts, two of them joined, and a letter
-- before each word.
use Rattle.std.proofs.Common.{ℕ, zero, suc, inl, inr, ⊎_elim, List, [], ◌∷◌, ◌++◌, map, take, Bool, refl, sym, subst}
use Rattle.cell_laws.specs.Leading.{Leads, AllLead}
use Rattle.list_laws.specs.In.{Distinct, IsIn}
use Rattle.list_laws.proofs.Lists.{from_append, from_take}

pub distinct_take : {A : Type 0} (n : ℕ) (xs : List A) → Distinct xs → Distinct (take n xs)
distinct_take zero xs d = tt
distinct_take (suc n) [] d = tt
distinct_take (suc n) (a ∷ xs) d = ((λ i. d.0 (from_take n a xs i)), distinct_take n xs d.1)

-- two lists without repeats that share no element make one without repeats
pub distinct_append : {A : Type 0} (xs ys : List A) → Distinct xs → Distinct ys
    → ((x : A) → IsIn x xs → IsIn x ys → ⊥) → Distinct (xs ++ ys)
distinct_append [] ys d e h = e
distinct_append (x ∷ xs) ys d e h = (
  (λ i. ⊎_elim (λ l. d.0 l) (λ r. h x (inl refl) r) (from_append x xs ys i)),
  distinct_append xs ys d.1 e
      (λ z i j. h z (inr i) j),
)

module _ (letters : List ℕ) (to : ℕ → ℕ → ℕ) (in_cell : ℕ → Bool) where
  pub lead_take : (n r : ℕ) (ws : List (List ℕ)) → AllLead letters to in_cell r ws
      → AllLead letters to in_cell r (take n ws)
  lead_take zero r ws h = tt
  lead_take (suc n) r [] h = tt
  lead_take (suc n) r (w ∷ ws) h = (h.0, lead_take n r ws h.1)

  pub lead_append : (r : ℕ) (ws vs : List (List ℕ)) → AllLead letters to in_cell r ws
      → AllLead letters to in_cell r vs → AllLead letters to in_cell r (ws ++ vs)
  lead_append r [] vs h k = k
  lead_append r (w ∷ ws) vs h k = (h.0, lead_append r ws vs h.1 k)

  pub lead_map : (r c : ℕ) (ws : List (List ℕ)) → IsIn c letters → AllLead letters to in_cell (to r c) ws
      → AllLead letters to in_cell r (map (λ w. c ∷ w) ws)
  lead_map r c [] i h = tt
  lead_map r c (w ∷ ws) i h = (((i, h.0.0), h.0.1), lead_map r c ws i h.1)

  pub lead_at : (r : ℕ) (w : List ℕ) (ws : List (List ℕ)) → AllLead letters to in_cell r ws → IsIn w ws
      → Leads letters to in_cell r w
  lead_at r w [] h i = absurd i
  lead_at r w (v ∷ ws) h (inl e) = subst (λ z. Leads letters to in_cell r z) (sym e) h.0
  lead_at r w (v ∷ ws) h (inr i) = lead_at r w ws h.1 i

  pub lead_all : (r : ℕ) (ws : List (List ℕ)) → ((w : List ℕ) → IsIn w ws → Leads letters to in_cell r w)
      → AllLead letters to in_cell r ws
  lead_all r [] h = tt
  lead_all r (w ∷ ws) h = (h w (inl refl), lead_all r ws (λ v i. h v (inr i)))
