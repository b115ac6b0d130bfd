-- What is mentioned again changes nothing.
use Rattle.std.proofs.Common.{◌≡◌, List, [], ◌∷◌, ◌++◌, Bool, true, false, if◌then◌else◌, inl, inr, refl, ap, ◌∙◌}
use Rattle.std.specs.List.{list_any}
use Rattle.std.proofs.lemmas.Bool.{and_parts, and_from, or_left, or_right, or_cases, cond-true}
use Rattle.documents.specs.Tests.{every}
use Rattle.word_states.specs.Mention.{mention, mention_all}

pub mention_all-append : {A : Type 0} (same : A → A → Bool) (L xs ys : List A)
    → mention_all same L (xs ++ ys) ≡ mention_all same (mention_all same L xs) ys
mention_all-append same L [] ys = refl
mention_all-append same L (x ∷ xs) ys = mention_all-append same (mention same L x) xs ys

module _ {A : Type 0} (same : A → A → Bool) where
  -- each of them is mentioned already
  pub mention_all-known : (L xs : List A) → every (λ x. list_any (same x) L) xs ≡ true → mention_all same L xs ≡ L
  mention_all-known L [] h = refl
  mention_all-known L (x ∷ xs) h =
      let (one, more) = and_parts (list_any (same x) L) (every (λ x. list_any (same x) L) xs) h in
      ap (λ M. mention_all same M xs) (cond-true (list_any (same x) L) L (L ++ x ∷ []) one)
      ∙ mention_all-known L xs more

  any-left : (p : A → Bool) (L K : List A) → list_any p L ≡ true → list_any p (L ++ K) ≡ true
  any-left p [] K h = absurd (cc)
  any-left p (x ∷ L) K h =
      elim (or_cases (p x) (list_any p L) h) [
        | inl a ↦ or_left (p x) (list_any p (L ++ K)) a
        | inr b ↦ or_right (p x) (list_any p (L ++ K)) (any-left p L K b)
      ]

  any-last : (p : A → Bool) (L : List A) (x : A) → p x ≡ true → list_any p (L ++ x ∷ []) ≡ true
  any-last p [] x h = or_left (p x) false h
  any-last p (y ∷ L) x h = or_right (p y) (list_any p (L ++ x ∷ [])) (any-last p L x h)

  -- what is mentioned stays so
  any-mention : (p : A → Bool) (L : List A) (x : A) → list_any p L ≡ true → list_any p (mention same L x) ≡ true
  any-mention p L x h = go (list_any (same x) L) where
    go : (b : Bool) → list_any p (if b then L else L ++ x ∷ []) ≡ true
    go true = h
    go false = any-left p L (x ∷ []) h

  any-mention_all : (p : A → Bool) (L xs : List A) → list_any p L ≡ true → list_any p (mention_all same L xs) ≡ true
  any-mention_all p L [] h = h
  any-mention_all p L (x ∷ xs) h = any-mention_all p (mention same L x) xs (any-mention p L x h)

  mentioned-one : (L : List A) (x : A) → same x x ≡ true → list_any (same x) (mention same L x) ≡ true
  mentioned-one L x e = go (list_any (same x) L) refl where
    go : (b : Bool) → list_any (same x) L ≡ b → list_any (same x) (if b then L else L ++ x ∷ []) ≡ true
    go true h = h
    go false h = any-last (same x) L x e

  pub mention_all-mentioned : ((a : A) → same a a ≡ true) → (L xs : List A)
      → every (λ x. list_any (same x) (mention_all same L xs)) xs ≡ true
  mention_all-mentioned equal L [] = refl
  mention_all-mentioned equal L (x ∷ xs) =
      and_from (list_any (same x) (mention_all same (mention same L x) xs)) _
      (any-mention_all (same x) (mention same L x) xs (mentioned-one L x (equal x)))
      (mention_all-mentioned equal (mention same L x) xs)
