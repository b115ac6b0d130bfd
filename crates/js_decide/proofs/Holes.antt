-- The first explored goal that passes a limit.
use Rattle.std.proofs.Common.{◌≡◌, ℕ, zero, suc, ◌<◌, ◌≤◌, ◌⊎◌, inl, inr, List, [], ◌∷◌, length, take, Option, Some, None, slice_get, refl, ap, sym, ◌∙◌, arith}
use Rattle.std.proofs.lemmas.Bool.{cases_lt}
use Rattle.std.proofs.lemmas.List.{length-take}
use Rattle.std.proofs.lemmas.Option.{slice_get_past, slice_get_within, none-some, same_Some}
use Rattle.goals.specs.Signed.{Signed}
use Rattle.alternatives.specs.Limit.{LimitKind}
use Rattle.alternatives.specs.Expansion.{Expansion}
use Rattle.search.specs.Explored.{Found}
use Rattle.search.specs.Rounds.{hole_of}
use Rattle.decisions.specs.Decision.{or_later, first_hole}
use Rattle.decision_laws.proofs.Verdicts.{hole_taken, hole_past}

slice_take : {A : Type 0} (n m : ℕ) (xs : List A) → m < n → slice_get (take n xs) m ≡ slice_get xs m
slice_take zero m xs l = absurd (omega (arith, l))
slice_take (suc n) m [] l = refl
slice_take (suc n) zero (x ∷ xs) l = refl
slice_take (suc n) (suc m) (x ∷ xs) l = slice_take n m xs (omega (arith, l))

abbrev pub hole : LimitKind → List Signed → Option (LimitKind × List Signed)
hole k g = Some (k, g)

module _ (expansion : List Signed → Expansion) where
  first_at : (gs : List (List Signed)) (n : ℕ) (k : LimitKind) (g : List Signed) → slice_get gs n ≡ Some g
      → (expansion g).hole ≡ Some k
      → ((m : ℕ) (h : List Signed) → m < n → slice_get gs m ≡ Some h → (expansion h).hole ≡ None)
      → first_hole expansion gs ≡ hole k g
  first_at [] n k g e p before = cc
  first_at (x ∷ gs) zero k g e p before =
      let s : x ≡ g = same_Some x g e in
      ap (λ o. or_later x o (first_hole expansion gs)) (ap (λ z. (expansion z).hole) s ∙ p) ∙ ap (hole k) s
  first_at (x ∷ gs) (suc n) k g e p before =
      ap (λ o. or_later x o (first_hole expansion gs)) (before 0 x (omega arith) refl)
      ∙ first_at gs n k g e p (λ m h l i. before (suc m) h (omega (arith, l)) i)

  none_at : (gs : List (List Signed))
      → ((m : ℕ) (h : List Signed) → slice_get gs m ≡ Some h → (expansion h).hole ≡ None)
      → first_hole expansion gs ≡ None
  none_at [] none = refl
  none_at (x ∷ gs) none =
      ap (λ o. or_later x o (first_hole expansion gs)) (none 0 x refl) ∙ none_at gs (λ m h i. none (suc m) h i)

  module _ (f : Found) where
    in_taken : (m : ℕ) (h : List Signed) → slice_get (take f.taken f.goals) m ≡ Some h
        → (m < f.taken) × (slice_get f.goals m ≡ Some h)
    in_taken m h e = go (cases_lt m f.taken) where
      go : (m < f.taken) ⊎ (f.taken ≤ m) → (m < f.taken) × (slice_get f.goals m ≡ Some h)
      go (inl l) = (l, sym (slice_take f.taken m f.goals l) ∙ e)
      go (inr l) = absurd (none-some h (sym (slice_get_past (take f.taken f.goals) m
          (omega (arith, l, length-take f.taken f.goals))) ∙ e))

    -- the explored goal of least number that has a hole is the first one that has one
    pub first_is : (n : ℕ) (k : LimitKind) (g : List Signed) → slice_get f.goals n ≡ Some g
        → hole_of expansion f n ≡ Some k → ((m : ℕ) → m < n → hole_of expansion f m ≡ None)
        → first_hole expansion (take f.taken f.goals) ≡ hole k g
    first_is n k g e p before = go (cases_lt n f.taken) where
      go : (n < f.taken) ⊎ (f.taken ≤ n) → first_hole expansion (take f.taken f.goals) ≡ hole k g
      go (inl l) =
          first_at (take f.taken f.goals) n k g (slice_take f.taken n f.goals l ∙ e)
          (sym (hole_taken expansion f n g l e) ∙ p)
          (λ m h j i. let (u, v) = in_taken m h i in sym (hole_taken expansion f m h u v) ∙ before m j)
      go (inr l) = absurd (none-some k (sym (hole_past expansion f n l) ∙ p))

    pub none_is : ((m : ℕ) → m < length f.goals → hole_of expansion f m ≡ None)
        → first_hole expansion (take f.taken f.goals) ≡ None
    none_is none =
        none_at (take f.taken f.goals)
        (λ m h i. let (u, v) = in_taken m h i in
        sym (hole_taken expansion f m h u v) ∙ none m (slice_get_within f.goals m h v))
