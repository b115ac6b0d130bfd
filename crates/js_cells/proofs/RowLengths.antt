-- The lengths of the words of rows: rows are ordered by length, no word that leads to a row is shorter than the row's,
-- and each row but the first is led to by a row whose word is shorter by one.
use Rattle.std.proofs.Common.{◌≡◌, ℕ, zero, suc, ◌<◌, ◌≤◌, inl, inr, ⊎_elim, List, [], ◌∷◌, ◌++◌, map, true, length, get_or, ap, sym, subst, length-append, arith}
use Rattle.std.specs.List.{list_all}
use Rattle.patterns.specs.CharSet.{is_scalar}
use Rattle.list_laws.specs.In.{IsIn}
use Rattle.list_laws.proofs.Lists.{get_or-in, from_map, from_flat_map, in-get_or}
use Rattle.word_states.specs.Atom.{Atom}
use Rattle.word_states.specs.Classes.{class_firsts, class_count}
use Rattle.word_states.specs.WordState.{have_same_state}
use Rattle.word_states.specs.Rows.{AreRows, longer_by_one}
use Rattle.word_laws.proofs.Mentions as M
use Rattle.word_laws.proofs.Classes.{firsts_scalar}
use Rattle.word_laws.proofs.RowLaws.{all_end, rows_words}
use Rattle.word_laws.proofs.States.{same_laws}
use Rattle.cell_laws.specs.FirstWords.{Before, IsOrdered}
use Rattle.cell_laws.specs.RowTables.{IsRowOf}
use Rattle.cell_laws.proofs.Characters.{rank}
use Rattle.cell_laws.proofs.Rows.{target_in, leads_on, one_row, first_row}
use Rattle.finder_laws.proofs.RowOrder.{NoLater, rows_ordered, word_row}

-- of words in order none is longer than a later one

before_longer : (v w : List ℕ) → Before rank v w → length v ≤ length w
before_longer v w (inl l) = omega (arith, l)
before_longer v w (inr l) = let e = l.0 in omega (arith, e)

no_later_longer : (v w : List ℕ) → NoLater v w → length v ≤ length w
no_later_longer v w (inl e) = let q = ap length e in omega (arith, q)
no_later_longer v w (inr l) = before_longer v w l

ordered_longer : (L : List (List ℕ)) (i j : ℕ) → IsOrdered (Before rank) L → i ≤ j → j < length L
    → length (get_or L i []) ≤ length (get_or L j [])
ordered_longer [] i j o l m = absurd (omega (arith, m))
ordered_longer (w ∷ L) zero zero o l m = omega arith
ordered_longer (w ∷ L) zero (suc j) o l m =
    before_longer w (get_or L j []) (o.0 (get_or L j []) (get_or-in L j [] (omega (arith, m))))
ordered_longer (w ∷ L) (suc i) zero o l m = absurd (omega (arith, l))
ordered_longer (w ∷ L) (suc i) (suc j) o l m = ordered_longer L i j o.1 (omega (arith, l)) (omega (arith, m))

module _ (atoms : List Atom) (L : List (List ℕ)) (rows : AreRows atoms L) where
  -- the length of a row's word
  abbrev pub long : ℕ → ℕ
  long i = length (get_or L i [])

  pub later_longer : (i j : ℕ) → i ≤ j → j < length L → long i ≤ long j
  later_longer i j l m = ordered_longer L i j (rows_ordered atoms L rows) l m

  -- no word that leads to a row is shorter than the row's
  pub row_shortest : (w : List ℕ) (i : ℕ) → list_all is_scalar w ≡ true → IsRowOf atoms L w i → long i ≤ length w
  row_shortest w i s r =
      let h = word_row atoms L rows w s in
      let (j, l, e) = in-get_or L h.first [] h.is_in in
      let same : have_same_state atoms w (get_or L j []) ≡ true =
      subst (λ z. have_same_state atoms w z ≡ true) e h.is_same in
      let q : i ≡ j = one_row atoms L rows w i j r (l, same) in
      let n = no_later_longer h.first w h.no_later in
      let f = ap length e in
      let g = ap (λ k. long k) q in omega (arith, n, f, g)

  abbrev pub next_word : ℕ → ℕ → List ℕ
  next_word p k = get_or L p [] ++ get_or (class_firsts atoms) k 0 ∷ []

  next_long : (p k : ℕ) → length (next_word p k) ≡ suc (long p)
  next_long p k =
      let e = length-append (get_or L p []) (get_or (class_firsts atoms) k 0 ∷ []) in omega (arith, e)

  -- a target's word is longer by one at most
  pub target_longer : (p k : ℕ) → p < length L → k < class_count atoms
      → long (target_in atoms L p k) ≤ suc (long p)
  target_longer p k l m =
      let s = all_end (get_or L p []) (get_or (class_firsts atoms) k 0)
      (rows_words atoms L rows (get_or L p []) (get_or-in L p [] l))
      (firsts_scalar atoms (get_or (class_firsts atoms) k 0) (get_or-in (class_firsts atoms) k 0 m)) in
      let n = row_shortest (next_word p k) (target_in atoms L p k) s (leads_on atoms L rows p k l m) in
      let e = next_long p k in omega (arith, n, e)

  -- a class of a row leads to the row, whose word is longer by one
  pub record IsLed (i : ℕ) : Type 0 where
    pub row : ℕ
    pub class : ℕ
    pub within : row < length L
    pub small : class < class_count atoms
    pub leads : target_in atoms L row class ≡ i
    pub longer : long i ≡ suc (long row)

  pub led_to : (i : ℕ) → 0 < i → i < length L → IsLed i
  led_to i o l = ⊎_elim (λ z. absurd z) (λ j. ⊎_elim (λ e. absurd (first e)) next j)
      (M.mentions_only (have_same_state atoms) (same_laws atoms) [] ([] ∷ longer_by_one (class_firsts atoms) L)
      (get_or L i []) (subst (λ z. IsIn (get_or L i []) z) rows (get_or-in L i [] l))) where
        first : get_or L i [] ≡ [] → ⊥
        first e =
            let same : have_same_state atoms [] (get_or L i []) ≡ true =
            subst (λ z. have_same_state atoms [] z ≡ true) (sym e) ((same_laws atoms).refl []) in
            let q : i ≡ 0 = one_row atoms L rows [] i 0 (l, same) (first_row atoms L rows) in omega (arith, o, q)

        next : IsIn (get_or L i []) (longer_by_one (class_firsts atoms) L) → IsLed i
        next j =
            let (v, a, b) = from_flat_map (λ w. map (λ c. w ++ c ∷ []) (class_firsts atoms)) (get_or L i []) L j in
            let (c, d, e) = from_map (λ c. v ++ c ∷ []) (get_or L i []) (class_firsts atoms) b in
            let (p, m, f) = in-get_or L v [] a in
            let (k, n, g) = in-get_or (class_firsts atoms) c 0 d in
            let is : get_or L i [] ≡ next_word p k =
            subst (λ z. get_or L i [] ≡ get_or L p [] ++ z ∷ []) g (subst (λ z. get_or L i [] ≡ z ++ c ∷ []) f e) in
            record {
              row = p;
              class = k;
              within = m;
              small = n;
              leads = one_row atoms L rows (get_or L i []) (target_in atoms L p k) i
                  (subst (λ z. IsRowOf atoms L z (target_in atoms L p k)) (sym is) (leads_on atoms L rows p k m n))
                  (l, (same_laws atoms).refl (get_or L i []));
              longer = (let q = ap length is in let r = next_long p k in omega (arith, q, r));
            }
