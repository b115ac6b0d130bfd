-- The words shorter than a length are different names, where characters are.
use Rattle.std.proofs.Common.{◌≡◌, ℕ, zero, suc, ◌<◌, inl, inr, ⊎_elim, Bool, true, false, cond, List, [], ◌∷◌, ◌++◌, map, filter, flat_map, length, refl, ap, sym, ◌∙◌, subst, arith}
use Rattle.std.proofs.lemmas.Bool.{and_from}
use Rattle.documents.specs.Tests.{every, is_scalar}
use Rattle.list_laws.specs.In.{IsIn, Distinct}
use Rattle.list_laws.proofs.Lists.{from_append, from_map, from_flat_map}
use Rattle.cells.specs.WordsInOrder.{of_length, shorter}
use Rattle.list_laws.proofs.Tests.{from_filter}

-- words by length

differ_map : (c : ℕ) (ws : List (List ℕ)) → Distinct ws → Distinct (map (λ w. c ∷ w) ws)
differ_map c [] d = tt
differ_map c (w ∷ ws) d = (
  (λ i. let (v, a, e) = from_map (λ w. c ∷ w) (c ∷ w) ws i in let q : w ≡ v =
      cc in d.0 (subst (λ z. IsIn z ws) (sym q) a)),
  differ_map c ws d.1,
)

differ_append : {A : Type 0} (xs ys : List A) → Distinct xs → Distinct ys → ((x : A) → IsIn x xs → IsIn x ys → ⊥)
    → Distinct (xs ++ ys)
differ_append [] ys d e h = e
differ_append (x ∷ xs) ys d e h = (
  (λ i. ⊎_elim d.0 (λ j. h x (inl refl) j) (from_append x xs ys i)),
  differ_append xs ys d.1 e (λ y i j. h y (inr i) j),
)

pub differ_filter : {A : Type 0} (p : A → Bool) (xs : List A) → Distinct xs → Distinct (filter p xs)
differ_filter p [] d = tt
differ_filter {A = A} p (x ∷ xs) d = go (p x) (differ_filter p xs d.1) where
  go : (b : Bool) → Distinct (filter p xs) → Distinct (cond b (x ∷ filter p xs) (filter p xs))
  go true e = ((λ i. d.0 (from_filter p x xs i).0), e)
  go false e = e

module _ (characters : List ℕ) (different : Distinct characters)
    (scalars : (c : ℕ) → IsIn c characters → is_scalar c ≡ true) where
  abbrev Longer : ℕ → ℕ → List (List ℕ)
  Longer n c = map (λ w. c ∷ w) (of_length characters n)

  of_length_is : (n : ℕ) (w : List ℕ) → IsIn w (of_length characters n) → (length w ≡ n) × (every is_scalar w ≡ true)
  of_length_is zero w (inl e) = (ap length e, subst (λ z. every is_scalar z ≡ true) (sym e) refl)
  of_length_is zero w (inr i) = absurd i
  of_length_is (suc n) w i =
      let (c, a, j) = from_flat_map (Longer n) w characters i in
      let (v, b, e) = from_map (λ w. c ∷ w) w (of_length characters n) j in
      let (l, s) = of_length_is n v b in (
        ap length e ∙ ap suc l,
        subst (λ z. every is_scalar z ≡ true) (sym e)
            (and_from (is_scalar c) (every is_scalar v) (scalars c a) s),
      )

  of_length_differ : (n : ℕ) → Distinct (of_length characters n)
  of_length_differ zero = ((λ i. i), tt)
  of_length_differ (suc n) = go characters different (of_length_differ n) where
    go : (cs : List ℕ) → Distinct cs → Distinct (of_length characters n) → Distinct (flat_map (Longer n) cs)
    go [] d more = tt
    go (c ∷ cs) d more =
        differ_append (Longer n c) (flat_map (Longer n) cs) (differ_map c (of_length characters n) more)
        (go cs d.1 more) (λ w i j.
        let (v, a, e) = from_map (λ w. c ∷ w) w (of_length characters n) i in
        let (b, h, k) = from_flat_map (Longer n) w cs j in
        let (u, f, g) = from_map (λ w. b ∷ w) w (of_length characters n) k in
        let q : c ∷ v ≡ b ∷ u = sym e ∙ g in
        let r : c ≡ b = cc in
        d.0 (subst (λ z. IsIn z cs) (sym r) h))

  -- each word of the list is shorter than n and made of scalar values
  pub shorter_is : (n : ℕ) (w : List ℕ) → IsIn w (shorter characters n) → (length w < n) × (every is_scalar w ≡ true)
  shorter_is zero w i = absurd i
  shorter_is (suc n) w i = ⊎_elim
      (λ j. let (l, s) = shorter_is n w j in (omega (arith, l), s))
      (λ j. let (l, s) = of_length_is n w j in (omega (arith, l), s))
      (from_append w (shorter characters n) (of_length characters n) i)

  pub shorter_differ : (n : ℕ) → Distinct (shorter characters n)
  shorter_differ zero = tt
  shorter_differ (suc n) =
      differ_append (shorter characters n) (of_length characters n) (shorter_differ n) (of_length_differ n) (λ w i j.
      let (l, s) = shorter_is n w i in
      let (m, t) = of_length_is n w j in
      let f : ⊥ = omega (arith, l, m) in f)
