-- Lists in order of first mention: nothing is there twice, everything mentioned is there, and what a beginning mentions
-- comes first.
use Rattle.std.proofs.Common.{◌≡◌, zero, ◌≤◌, ◌⊎◌, inl, inr, ⊎_elim, List, [], ◌∷◌, ◌++◌, Bool, true, false, if◌then◌else◌, length, map, is_some, refl, ap, sym, ◌∙◌, subst, append-nil, append_assoc}
use Rattle.std.specs.Cmp.{IsEquivalence}
use Rattle.std.specs.List.{list_any, IsDistinct, AllByRecursion}
use Rattle.std.specs.Map.{lookup}
use Rattle.std.proofs.lemmas.List.{length-map}
use Rattle.std.proofs.lemmas.Bool.{or_cases, or_from, or_left, or_right, cases_Bool}
use Rattle.std.proofs.lemmas.List.Folds.{list_any-append}
use Rattle.std.proofs.lemmas.Map.Keys.{IsDistinct-push}
use Rattle.std.proofs.lemmas.Map.Steps.{list_any_congr, length-le_from_keys}
use Rattle.word_states.specs.Mention.{mention, mention_all}
use Rattle.list_laws.proofs.Lists.{in_right, from_append}
use Rattle.list_laws.specs.In.{IsIn}

module _ {A : Type 0} (same : A → A → Bool) (laws : IsEquivalence same) where
  abbrev Has : List A → A → Type 0
  Has L x = list_any (same x) L ≡ true

  pub has_left : (x : A) (L M : List A) → Has L x → Has (L ++ M) x
  has_left x L M h = list_any-append (same x) L M ∙ or_left (list_any (same x) L) (list_any (same x) M) h

  pub has_right : (x : A) (L M : List A) → Has M x → Has (L ++ M) x
  has_right x L M h = list_any-append (same x) L M ∙ or_right (list_any (same x) L) (list_any (same x) M) h

  -- what is in a list itself, the list has
  pub has_in : (x y : A) (L : List A) → IsIn y L → same x y ≡ true → Has L x
  has_in x y [] i s = absurd i
  has_in x y (z ∷ L) (inl e) s = or_left (same x z) (list_any (same x) L) (subst (λ u. same x u ≡ true) e s)
  has_in x y (z ∷ L) (inr i) s = or_right (same x z) (list_any (same x) L) (has_in x y L i s)

  pub in_has : (x : A) (L : List A) → Has L x → (y : A) × IsIn y L × (same x y ≡ true)
  in_has x [] h = cc h
  in_has x (z ∷ L) h = ⊎_elim
      (λ s. (z, inl refl, s))
      (λ r. let (y, i, s) = in_has x L r in (y, inr i, s))
      (or_cases (same x z) (list_any (same x) L) h)

  pub none_has : (x : A) (L : List A) → ((y : A) → IsIn y L → same x y ≡ false) → list_any (same x) L ≡ false
  none_has x [] h = refl
  none_has x (y ∷ L) h = or_from (same x y) (list_any (same x) L) (h y (inl refl)) (none_has x L (λ z i. h z (inr i)))

  pub has_same : (x y : A) (L : List A) → same x y ≡ true → Has L y → Has L x
  has_same x y L s h = list_any_congr laws x y L s ∙ h

  pub mention_grows : (L : List A) (x : A) → (X : List A) × (mention same L x ≡ L ++ X)
  mention_grows L x = go (list_any (same x) L) where
    go : (b : Bool) → (X : List A) × ((if b then L else L ++ x ∷ []) ≡ L ++ X)
    go true = ([], sym (append-nil L))
    go false = (x ∷ [], refl)

  mention_has : (L : List A) (x : A) → Has (mention same L x) x
  mention_has L x = go (list_any (same x) L) refl where
    go : (b : Bool) → list_any (same x) L ≡ b → Has (if b then L else L ++ x ∷ []) x
    go true e = e
    go false e = has_in x x (L ++ x ∷ []) (in_right x L (x ∷ []) (inl refl)) (laws.refl x)

  mention_distinct : (L : List A) (x : A) → IsDistinct same L → IsDistinct same (mention same L x)
  mention_distinct L x d = go (list_any (same x) L) refl where
    go : (b : Bool) → list_any (same x) L ≡ b → IsDistinct same (if b then L else L ++ x ∷ [])
    go true e = d
    go false e = IsDistinct-push laws L x d e

  -- what is mentioned comes behind what is there
  pub mentions_grow : (L xs : List A) → (X : List A) × (mention_all same L xs ≡ L ++ X)
  mentions_grow L [] = ([], sym (append-nil L))
  mentions_grow L (x ∷ xs) =
      let (X, p) = mention_grows L x in
      let (Y, q) = mentions_grow (mention same L x) xs in
      (X ++ Y, q ∙ ap (λ z. z ++ Y) p ∙ append_assoc L X Y)

  -- a list keeps what it has
  pub mentions_keep : (L xs : List A) (x : A) → Has L x → Has (mention_all same L xs) x
  mentions_keep L xs x h = let (X, p) = mentions_grow L xs in subst (λ z. Has z x) (sym p) (has_left x L X h)

  -- what is mentioned is there
  pub mentions_have : (L xs : List A) (x y : A) → IsIn y xs → same x y ≡ true → Has (mention_all same L xs) x
  mentions_have L [] x y i s = absurd i
  mentions_have L (z ∷ xs) x y (inl e) s =
      mentions_keep (mention same L z) xs x (has_same x z (mention same L z) (subst (λ u. same x u ≡ true) e s)
      (mention_has L z))
  mentions_have L (z ∷ xs) x y (inr i) s = mentions_have (mention same L z) xs x y i s

  -- nothing else is in the list after x is mentioned
  mention_only : (L : List A) (x y : A) → IsIn y (mention same L x) → IsIn y L ⊎ (y ≡ x)
  mention_only L x y i = go (list_any (same x) L) i where
    go : (b : Bool) → IsIn y (if b then L else L ++ x ∷ []) → IsIn y L ⊎ (y ≡ x)
    go true j = inl j
    go false j = ⊎_elim (λ l. inl l) (λ r. ⊎_elim (λ e. inr e) (λ z. absurd z) r) (from_append y L (x ∷ []) j)

  pub mentions_only : (L xs : List A) (y : A) → IsIn y (mention_all same L xs) → IsIn y L ⊎ IsIn y xs
  mentions_only L [] y i = inl i
  mentions_only L (x ∷ xs) y i = ⊎_elim
      (λ l. ⊎_elim (λ k. inl k) (λ e. inr (inl e)) (mention_only L x y l))
      (λ r. inr (inr r))
      (mentions_only (mention same L x) xs y i)

  -- nothing is there twice
  pub mentions_distinct : (L xs : List A) → IsDistinct same L → IsDistinct same (mention_all same L xs)
  mentions_distinct L [] d = d
  mentions_distinct L (x ∷ xs) d = mentions_distinct (mention same L x) xs (mention_distinct L x d)

  pub mentions_append : (L xs ys : List A) → mention_all same L (xs ++ ys) ≡ mention_all same (mention_all same L xs) ys
  mentions_append L [] ys = refl
  mentions_append L (x ∷ xs) ys = mentions_append (mention same L x) xs ys

  -- what comes after a beginning of a list without repetition is not in the beginning
  pub distinct_parts : (x : A) (L M : List A) → IsDistinct same (L ++ M) → Has L x → IsIn x M → ⊥
  unfolding IsDistinct
  distinct_parts x [] M d h i = cc h
  distinct_parts x (y ∷ L) M d h i = ⊎_elim
      (λ s. let n = apart (L ++ M) y x d.0 (in_right x L M i) in
      let t : same y x ≡ true = laws.symm y x ∙ s in cc (n, t))
      (λ r. distinct_parts x L M d.1 r i)
      (or_cases (same x y) (list_any (same x) L) h) where
        apart : (K : List A) (y x : A) → AllByRecursion (λ z. same y z ≡ false) K → IsIn x K → same y x ≡ false
        apart [] y x a i = absurd i
        apart (k ∷ K) y x a (inl e) = subst (λ z. same y z ≡ false) (sym e) a.0
        apart (k ∷ K) y x a (inr i) = apart K y x a.1 i

  -- different members of a list are no more than it has
  found : (x : A) (L : List A) → is_some (lookup (same x) (map (λ y. (y, zero)) L)) ≡ list_any (same x) L
  found x [] = refl
  found x (y ∷ L) = ⊎_elim (λ t. rw t refl) (λ f. rw f (found x L)) (cases_Bool (same x y))

  pub fits : (L M : List A) → IsDistinct same L → ((x : A) → Has L x → Has M x) → length L ≤ length M
  fits L M d h =
      let l = length-le_from_keys laws L (map (λ y. (y, zero)) M) d (λ x k. found x M ∙ h x k) in
      rw length-map at l
