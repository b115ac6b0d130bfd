-- The words of a list that lead into a cell are those that the automaton lists.
use Rattle.std.proofs.Common.{◌≡◌, ℕ, zero, suc, inl, inr, List, [], ◌∷◌, ◌++◌, map, filter, flat_map, cond, Bool, true, false, refl, ap, ap₂, ◌∙◌}
use Rattle.std.proofs.lemmas.List.Elements.{filter-append}
use Rattle.cell_laws.specs.Leading.{walk}
use Rattle.cell_laws.specs.FirstWords as F
use Rattle.list_laws.specs.In.{IsIn}
use Rattle.cells.specs.WordsInOrder.{of_length, shorter}

-- tests that agree on the members of a list pick the same ones
pub filter_same : {A : Type 0} (p q : A → Bool) (xs : List A) → ((x : A) → IsIn x xs → p x ≡ q x)
    → filter p xs ≡ filter q xs
filter_same p q [] h = refl
filter_same p q (x ∷ xs) h =
    ap₂ (λ b ys. cond b (x ∷ ys) ys) (h x (inl refl)) (filter_same p q xs (λ y i. h y (inr i)))

filter_map : (p : List ℕ → Bool) (c : ℕ) (ws : List (List ℕ))
    → filter p (map (λ w. c ∷ w) ws) ≡ map (λ w. c ∷ w) (filter (λ w. p (c ∷ w)) ws)
filter_map p c [] = refl
filter_map p c (w ∷ ws) = go (p (c ∷ w)) (filter_map p c ws) where
  go : (b : Bool) → filter p (map (λ w. c ∷ w) ws) ≡ map (λ w. c ∷ w) (filter (λ w. p (c ∷ w)) ws)
      → cond b ((c ∷ w) ∷ filter p (map (λ w. c ∷ w) ws)) (filter p (map (λ w. c ∷ w) ws))
      ≡ map (λ w. c ∷ w) (cond b (w ∷ filter (λ w. p (c ∷ w)) ws) (filter (λ w. p (c ∷ w)) ws))
  go true e = ap (λ z. (c ∷ w) ∷ z) e
  go false e = e

module _ (letters : List ℕ) (to : ℕ → ℕ → ℕ) (in_cell : ℕ → Bool) where
  pub listed_of : (n r : ℕ)
      → filter (λ w. in_cell (walk to r w)) (of_length letters n) ≡ F.of_length letters to in_cell n r
  listed_of zero r = refl
  listed_of (suc n) r = go letters (listed_of n) where
    go : (cs : List ℕ)
        → ((r : ℕ) → filter (λ w. in_cell (walk to r w)) (of_length letters n) ≡ F.of_length letters to in_cell n r)
        → filter (λ w. in_cell (walk to r w)) (flat_map (λ c. map (λ w. c ∷ w) (of_length letters n)) cs)
        ≡ flat_map (λ c. map (λ w. c ∷ w) (F.of_length letters to in_cell n (to r c))) cs
    go [] h = refl
    go (c ∷ cs) h =
        filter-append (λ w. in_cell (walk to r w)) (map (λ w. c ∷ w) (of_length letters n))
        (flat_map (λ c. map (λ w. c ∷ w) (of_length letters n)) cs)
        ∙ ap₂ (λ x y. x ++ y)
        (filter_map (λ w. in_cell (walk to r w)) c (of_length letters n) ∙ ap (λ z. map (λ w. c ∷ w) z) (h (to r c)))
        (go cs h)

  pub listed : (n r : ℕ) → filter (λ w. in_cell (walk to r w)) (shorter letters n) ≡ F.shorter letters to in_cell n r
  listed zero r = refl
  listed (suc n) r =
      filter-append (λ w. in_cell (walk to r w)) (shorter letters n) (of_length letters n)
      ∙ ap₂ (λ x y. x ++ y) (listed n r) (listed_of n r)
