-- The word of the first row whose word is wanted is the first word that is wanted, and none is where no row's word is.
use Rattle.std.proofs.Common.{◌≡◌, ℕ, zero, suc, ◌<◌, ◌≤◌, ◌⊎◌, inl, inr, ⊎_elim, List, [], ◌∷◌, take, true, false, length, get_or, Some, None, refl, ap, sym, ◌∙◌, subst, arith}
use Rattle.list_laws.proofs.Lists.{get_or-in, in-get_or}
use Rattle.std.specs.List.{list_all}
use Rattle.std.proofs.lemmas.Bool.{true≢false}
use Rattle.patterns.specs.CharSet.{is_scalar}
use Rattle.word_states.specs.Classes.{characters}
use Rattle.word_states.specs.Rows.{AreRows}
use Rattle.word_laws.proofs.RowLaws.{rows_words}
use Rattle.positions.specs.Position.{Position}
use Rattle.goals.specs.Signed.{Signed}
use Rattle.list_laws.specs.In.{IsIn}
use Rattle.cell_laws.specs.FirstWords.{Before, IsOrdered}
use Rattle.cell_laws.proofs.Rows.{target_in, leads_on, first_row}
use Rattle.cell_laws.proofs.FirstWords.{first_down}
use Rattle.cell_laws.proofs.Characters as C
use Rattle.alternatives.specs.Limit.{most_states}
use Rattle.finders.specs.WordsFound.{far, first_of}
use Rattle.finders.specs.Strings.{string_atoms, is_wanted}
use Rattle.finder_laws.proofs.Wanted.{wanted_same}
use Rattle.finder_laws.proofs.Strings.{wanted_words, wanted_is, wanted_first, first_in}
use Rattle.finder_laws.proofs.RowOrder.{NoLater, no_later, rows_ordered, word_row}
use Rattle.list_laws.proofs.Numbers.{three_ways}

ordered_at : {A : Type 0} (R : A → A → Type 0) (xs : List A) (d : A) (i j : ℕ) → IsOrdered R xs → i < j
    → j < length xs
    → R (get_or xs i d) (get_or xs j d)
ordered_at R [] d i j o l m = absurd (omega (arith, m))
ordered_at R (x ∷ xs) d zero zero o l m = absurd (omega (arith, l))
ordered_at R (x ∷ xs) d zero (suc j) o l m = o.0 (get_or xs j d) (get_or-in xs j d (omega (arith, m)))
ordered_at R (x ∷ xs) d (suc i) zero o l m = absurd (omega (arith, l))
ordered_at R (x ∷ xs) d (suc i) (suc j) o l m = ordered_at R xs d i j o.1 (omega (arith, l)) (omega (arith, m))

take_first : {A : Type 0} (x : A) (xs : List A) → first_of xs ≡ Some x → take 1 xs ≡ x ∷ []
take_first x [] e = cc e
take_first x (y ∷ xs) e = (let q : y ≡ x = cc e in ap (λ z. z ∷ []) q)

module _ (T : List Position) (S : List Signed) (L : List (List ℕ)) (rows : AreRows (string_atoms T S) L)
    (few : length L ≤ most_states) where
  row_word : (i : ℕ) → i < length L → list_all is_scalar (get_or L i []) ≡ true
  row_word i l = rows_words (string_atoms T S) L rows (get_or L i []) (get_or-in L i [] l)

  -- a wanted word has a row whose word is wanted and comes no later
  wanted_row : (w : List ℕ) → list_all is_scalar w ≡ true → is_wanted T S w ≡ true
      → (j : ℕ) × (j < length L) × (is_wanted T S (get_or L j []) ≡ true) × NoLater (get_or L j []) w
  wanted_row w s t =
      let h = word_row (string_atoms T S) L rows w s in
      let (j, l, e) = in-get_or L h.first [] h.is_in in (
        j,
        l,
        subst (λ z. is_wanted T S z ≡ true) e (sym (wanted_same T S w h.first h.is_same) ∙ t),
        subst (λ z. NoLater z w) e h.no_later,
      )

  -- where no row's word is wanted, no word is
  pub none_first : ((j : ℕ) → j < length L → is_wanted T S (get_or L j []) ≡ false)
      → first_of (wanted_words T S) ≡ None
  none_first none = go (wanted_words T S) (λ w i. i) where
    go : (ws : List (List ℕ)) → ((w : List ℕ) → IsIn w ws → IsIn w (wanted_words T S)) → first_of ws ≡ None
    go [] k = refl
    go (w ∷ ws) k =
        let (l, s, t) = wanted_is T S w (k w (inl refl)) in
        let (j, m, u, n) = wanted_row w s t in absurd (true≢false (sym u ∙ none j m))

  -- the word of the first wanted row is the first wanted word
  pub row_first : (i : ℕ) → i < length L → is_wanted T S (get_or L i []) ≡ true
      → ((j : ℕ) → j < i → is_wanted T S (get_or L j []) ≡ false)
      → first_of (wanted_words T S) ≡ Some (get_or L i [])
  row_first i l t none =
      let v = get_or L i [] in
      let s = row_word i l in
      let (u, e, short) = wanted_first T S L rows few v s t in
      let (k, a, b) = wanted_is T S u (first_in u (wanted_words T S) e) in
      let (j, m, c, n) = wanted_row u a b in
      e ∙ ap Some (same u e (no_later v (get_or L j []) u (between j m c) n))
    where
      between : (j : ℕ) → j < length L → is_wanted T S (get_or L j []) ≡ true → NoLater (get_or L i []) (get_or L j [])
      between j m c = order (three_ways i j) where
        order : (i < j) ⊎ ((i ≡ j) ⊎ (j < i)) → NoLater (get_or L i []) (get_or L j [])
        order (inl o) =
            inr (ordered_at (Before C.rank) L [] i j (rows_ordered (string_atoms T S) L rows) o m)
        order (inr (inl q)) = inl (ap (λ z. get_or L z []) q)
        order (inr (inr o)) = absurd (true≢false (sym c ∙ none j o))

      same : (u : List ℕ) → first_of (wanted_words T S) ≡ Some u → NoLater (get_or L i []) u → u ≡ get_or L i []
      same u e (inl q) = sym q
      same u e (inr o) =
          let one : take 1 (wanted_words T S) ≡ u ∷ [] = take_first u (wanted_words T S) e in
          ⊎_elim (λ q. sym q) (λ x. absurd x)
          (subst (λ z. IsIn (get_or L i []) z) one
          (first_down (string_atoms T S) L (target_in (string_atoms T S) L) (leads_on (string_atoms T S) L rows) 0
          (first_row (string_atoms T S) L rows) (is_wanted T S) (wanted_same T S) characters (C.different 0x110000)
          (C.scalars 0x110000) C.whole far C.rank (C.ordered 0x110000) 1 (get_or L i []) u
          (subst (λ z. IsIn u z) (sym one) (inl refl)) (row_word i l) t o))
