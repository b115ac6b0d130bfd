-- The first words of a test: different, all pass it, in order, no word that passes it is left out before one of them;
-- and where their number isn't cut there are no others.
use Rattle.std.proofs.Common.{◌≡◌, ℕ, zero, suc, ◌*◌, ◌≤◌, ◌<◌, inl, inr, List, [], ◌∷◌, map, filter, take, cond, ⊎_elim, length, Bool, true, false, refl, ap, sym, ◌∙◌, subst, arith}
use Rattle.std.specs.List.{list_all}
use Rattle.std.proofs.lemmas.Bool.{cases_lt, and_parts}
use Rattle.patterns.specs.CharSet.{is_scalar}
use Rattle.word_states.specs.Atom.{Atom}
use Rattle.word_states.specs.WordState.{have_same_state}
use Rattle.cell_laws.specs.FirstWords.{Before, IsOrdered, AreFirst}
use Rattle.cell_laws.proofs.WordLaws as G
use Rattle.list_laws.specs.In.{IsIn, Distinct}
use Rattle.list_laws.proofs.Lists.{in_left, in_right, from_append, in_flat_map, from_flat_map, in_map, from_map, from_take, in_filter}
use Rattle.cells.specs.WordsInOrder.{of_length, shorter}
use Rattle.cell_laws.proofs.WordsInOrderLaws.{shorter_differ}
use Rattle.list_laws.proofs.Tests.{from_filter}
use Rattle.cell_laws.specs.RowTables.{IsRowOf, LeadsOn}
use Rattle.cell_laws.proofs.Tables as T

differ_filter : {A : Type 0} (p : A → Bool) (xs : List A) → Distinct xs → Distinct (filter p xs)
differ_filter p [] d = tt
differ_filter {A = A} p (x ∷ xs) d = go (p x) (differ_filter p xs d.1) where
  go : (b : Bool) → Distinct (filter p xs) → Distinct (cond b (x ∷ filter p xs) (filter p xs))
  go true e = ((λ i. d.0 (from_filter p x xs i).0), e)
  go false e = e

module _ (characters : List ℕ) (whole : (c : ℕ) → is_scalar c ≡ true → IsIn c characters) where
  of_length_has : (w : List ℕ) → list_all is_scalar w ≡ true → IsIn w (of_length characters (length w))
  of_length_has [] s = inl refl
  of_length_has (c ∷ w) s =
      let (a, b) = and_parts (is_scalar c) (list_all is_scalar w) s in
      in_flat_map (λ c. map (λ w. c ∷ w) (of_length characters (length w))) (c ∷ w) c characters (whole c a)
      (in_map (λ w. c ∷ w) w (of_length characters (length w)) (of_length_has w b))

  of_length_is : (n : ℕ) (w : List ℕ) → IsIn w (of_length characters n) → length w ≡ n
  of_length_is zero w (inl e) = ap length e
  of_length_is zero w (inr i) = absurd i
  of_length_is (suc n) w i =
      let (c, a, j) = from_flat_map (λ c. map (λ w. c ∷ w) (of_length characters n)) w characters i in
      let (v, b, e) = from_map (λ w. c ∷ w) w (of_length characters n) j in
      ap length e ∙ ap suc (of_length_is n v b)

  shorter_is : (n : ℕ) (w : List ℕ) → IsIn w (shorter characters n) → length w < n
  shorter_is zero w i = absurd i
  shorter_is (suc n) w i = ⊎_elim
      (λ j. let l = shorter_is n w j in omega (arith, l))
      (λ j. let l = of_length_is n w j in omega (arith, l))
      (from_append w (shorter characters n) (of_length characters n) i)

  -- each word shorter than n is listed
  pub shorter_has : (n : ℕ) (w : List ℕ) → list_all is_scalar w ≡ true → length w < n → IsIn w (shorter characters n)
  shorter_has zero w s l = absurd (omega (arith, l))
  shorter_has (suc n) w s l = elim (cases_lt (length w) n) [
    | inl m ↦ in_left w (shorter characters n) (of_length characters n) (shorter_has n w s m)
    | inr m ↦ in_right w (shorter characters n) (of_length characters n)
        (subst (λ z. IsIn w (of_length characters z)) (last (length w) n l m) (of_length_has w s))
  ] where
    last : (a n : ℕ) → a < suc n → n ≤ a → a ≡ n
    last a n l m = omega (arith, l, m)

module _ (atoms : List Atom) (L : List (List ℕ)) (target : ℕ → ℕ → ℕ) (leads : LeadsOn atoms L target) (start : ℕ)
    (first : IsRowOf atoms L [] start) (p : List ℕ → Bool)
    (shared : (v w : List ℕ) → have_same_state atoms v w ≡ true → p v ≡ p w)
    (characters : List ℕ) (different : Distinct characters) (scalars : (c : ℕ) → IsIn c characters → is_scalar c ≡ true)
    (whole : (c : ℕ) → is_scalar c ≡ true → IsIn c characters) where
  module _ (far : ℕ) where
    abbrev pub passing : List (List ℕ)
    passing = filter p (shorter characters far)

    passing_differ : Distinct passing
    passing_differ = differ_filter p (shorter characters far) (shorter_differ characters different scalars far)

    passing_is : (w : List ℕ) → IsIn w passing → (list_all is_scalar w ≡ true) × (p w ≡ true)
    passing_is w i =
        let (a, b) = from_filter p w (shorter characters far) i in
        (T.below_words atoms L target leads p shared characters different scalars whole far w a, b)

    pub first_pass : (n : ℕ) (w : List ℕ) → IsIn w (take n passing) → (list_all is_scalar w ≡ true) × (p w ≡ true)
    first_pass n w i = passing_is w (from_take n w passing i)

    -- by length, and then by the order of characters; with each of them all that are before it and pass
    module _ (rank : ℕ → ℕ) (ordered : IsOrdered (λ c d. rank c < rank d) characters) where
      pub are_first : (n : ℕ)
          → AreFirst rank characters (T.to atoms L target leads) (T.in_rows atoms L target leads p shared) start
          (take n passing)
      are_first n =
          subst (λ z. AreFirst rank characters (T.to atoms L target leads) (T.in_rows atoms L target leads p shared)
          start (take n z))
          (sym (T.passed atoms L target leads p shared characters different scalars whole start [] first far))
          (G.first_of_shorter rank characters (T.to atoms L target leads) (T.in_rows atoms L target leads p shared)
          ordered n far start)

      pub first_ordered : (n : ℕ) → IsOrdered (Before rank) (take n passing)
      first_ordered n = (are_first n).0

      -- a word that passes the test and is before one of the first words is one of them
      pub first_down : (n : ℕ) (v w : List ℕ) → IsIn w (take n passing) → list_all is_scalar v ≡ true → p v ≡ true
          → Before rank v w
          → IsIn v (take n passing)
      first_down n v w i s t b =
          (are_first n).2 v w i (
            T.letters_of atoms L target leads p shared characters different scalars whole v s,
            T.tested atoms L target leads p shared start [] v first s ∙ t,
          ) b

    module _ (bound : ℕ) (enough : length L * bound ≤ far) where
      -- where the number isn't cut, each word that passes is listed
      pub all_passing : length passing < bound → (w : List ℕ) → list_all is_scalar w ≡ true → p w ≡ true
          → IsIn w passing
      all_passing l w s t = elim (cases_lt (length w) far) [
        | inl m ↦ in_filter p w (shorter characters far) (shorter_has characters whole far w s m) t
        | inr m ↦
            let q : suc (length passing) ≤ length passing =
            T.no_others atoms L target leads p shared characters different scalars whole bound far enough start []
            first l (w ∷ passing) (
              (λ i. let (a, b) = from_filter p w (shorter characters far) i in
                  let k = shorter_is characters whole far w a in
                  let f : ⊥ = omega (arith, k, m) in f),
              passing_differ,
            )
            (λ v i. ⊎_elim
            (λ e. (subst (λ z. list_all is_scalar z ≡ true) (sym e) s, subst (λ z. p z ≡ true) (sym e) t))
            (λ j. passing_is v j) i) in
            absurd (omega (arith, q))
      ]

      -- where some word passes, the first word is no longer
      module _ (rank : ℕ → ℕ) (ordered : IsOrdered (λ c d. rank c < rank d) characters) (some : 0 < bound) where
        -- where a word passes the test, the first word is there and no longer than it
        pub first_shortest : (w : List ℕ) → list_all is_scalar w ≡ true → p w ≡ true
            → (v : List ℕ) × (take 1 passing ≡ v ∷ []) × (length v ≤ length w)
        first_shortest w s t = go passing refl where
          go : (vs : List (List ℕ)) → passing ≡ vs → (v : List ℕ) × (take 1 passing ≡ v ∷ []) × (length v ≤ length w)
          go [] e =
              let n : length passing ≡ 0 = ap length e in
              absurd (none vs_in n) where
                vs_in : IsIn w passing
                vs_in = all_passing (let n : length passing ≡ 0 = ap length e in omega (arith, n, some)) w s t

                none : IsIn w passing → length passing ≡ 0 → ⊥
                none i n = subst (λ z. IsIn w z) e i
          go (v ∷ vs) e =
              let one : take 1 passing ≡ v ∷ [] = ap (λ z. take 1 z) e in (
                v,
                one,
                elim (cases_lt (length w) (length v)) [
                  | inr l ↦ l
                  | inl l ↦ ⊎_elim
                      (λ q. let f : length w ≡ length v = ap length q in absurd (omega (arith, f, l)))
                      (λ j. absurd j)
                      (subst (λ z. IsIn w z) one
                      (first_down rank ordered 1 w v (subst (λ z. IsIn v z) (sym one) (inl refl)) s t (inl l)))
                ],
              )
