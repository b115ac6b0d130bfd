-- Loops that mention goals, in which what is left is still to be mentioned.
use Rattle.std.proofs.Common.{◌≡◌, ℕ, ◌+◌, ◌≤◌, ◌<◌, List, [], ◌∷◌, ◌++◌, length, drop, get_or, refl, ap, ap₂, sym, ◌∙◌, add-one, drop-cons}
use Rattle.std.proofs.lemmas.List.{drop_all}
use Rattle.goals.specs.Signed.{Signed}
use Rattle.search.specs.Explored.{Found, mention_goals}

-- mentioning two lists joined mentions one after the other
pub mention_both : (most : ℕ) (s : Found) (xs ys : List (List Signed))
    → mention_goals most s (xs ++ ys) ≡ mention_goals most (mention_goals most s xs) ys
mention_both most s [] ys = refl
mention_both most s (x ∷ xs) ys = mention_both most (mention_goals most s (x ∷ [])) xs ys

module _ {A : Type 0} (most : ℕ) (names : List A → List (List Signed)) where
  pub mention_turn : (named : A → List (List Signed))
      → ((x : A) (xs : List A) → names (x ∷ xs) ≡ named x ++ names xs)
      → (s next last : Found) (xs : List A) (i : ℕ) (x : A) → i < length xs → x ≡ get_or xs i x
      → next ≡ mention_goals most s (named x) → mention_goals most s (names (drop i xs)) ≡ last
      → mention_goals most next (names (drop (i + 1) xs)) ≡ last
  mention_turn named cons s next last xs i x l at e f =
      let left : drop i xs ≡ x ∷ drop (i + 1) xs =
      drop-cons xs i x l ∙ ap₂ (λ y n. y ∷ drop n xs) (sym at) (sym (add-one i)) in
      ap (λ t. mention_goals most t (names (drop (i + 1) xs))) e
      ∙ sym (mention_both most s (named x) (names (drop (i + 1) xs)))
      ∙ ap (mention_goals most s) (sym (cons x (drop (i + 1) xs)) ∙ sym (ap names left)) ∙ f

  pub mention_end : names [] ≡ [] → (s last : Found) (xs : List A) (i : ℕ) → length xs ≤ i
      → mention_goals most s (names (drop i xs)) ≡ last → s ≡ last
  mention_end none s last xs i l f =
      sym (ap (mention_goals most s) (ap names (drop_all i xs l) ∙ none)) ∙ f
