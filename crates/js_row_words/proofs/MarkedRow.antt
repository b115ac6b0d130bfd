-- The word of the first row that is marked is the first word that leads to one.
use Rattle.std.proofs.Common.{◌≡◌, ℕ, zero, suc, ◌<◌, ◌≤◌, ◌⊎◌, inl, inr, ⊎_elim, List, [], ◌∷◌, ◌++◌, Bool, true, false, get_or, length, take, filter, refl, ap, sym, ◌∙◌, subst, arith}
use Rattle.std.specs.List.{list_all}
use Rattle.std.proofs.lemmas.Bool.{true≢false}
use Rattle.patterns.specs.CharSet.{is_scalar}
use Rattle.list_laws.specs.In.{IsIn}
use Rattle.list_laws.proofs.Lists.{get_or-in, in-get_or}
use Rattle.word_states.specs.Atom.{Atom}
use Rattle.word_states.specs.Classes.{characters}
use Rattle.word_states.specs.Rows.{AreRows, row_of}
use Rattle.word_laws.proofs.RowLaws.{rows_words, row_below, row_zero}
use Rattle.cells.specs.WordsInOrder.{shorter}
use Rattle.cell_laws.specs.FirstWords.{Before, IsOrdered}
use Rattle.cell_laws.proofs.Rows.{target_in, leads_on, first_row}
use Rattle.cell_laws.proofs.FirstWords.{first_down, first_pass}
use Rattle.cell_laws.proofs.Characters as C
use Rattle.finders.specs.WordsFound.{far}
use Rattle.finder_laws.proofs.RowOrder.{NoLater, no_later, rows_ordered, word_row}
use Rattle.js_row_words.specs.RowWords.{is_marked, words_from}
use Rattle.js_row_words.proofs.Listing.{shared, mark_is}
use Rattle.list_laws.proofs.Numbers.{three_ways}

ordered_at : {A : Type 0} (R : A → A → Type 0) (xs : List A) (d : A) (i j : ℕ) → IsOrdered R xs → i < j
    → j < length xs
    → R (get_or xs i d) (get_or xs j d)
ordered_at R [] d i j o l m = absurd (omega (arith, m))
ordered_at R (x ∷ xs) d zero zero o l m = absurd (omega (arith, l))
ordered_at R (x ∷ xs) d zero (suc j) o l m = o.0 (get_or xs j d) (get_or-in xs j d (omega (arith, m)))
ordered_at R (x ∷ xs) d (suc i) zero o l m = absurd (omega (arith, l))
ordered_at R (x ∷ xs) d (suc i) (suc j) o l m = ordered_at R xs d i j o.1 (omega (arith, l)) (omega (arith, m))

module _ (atoms : List Atom) (L : List (List ℕ)) (rows : AreRows atoms L) (marks : List Bool) where
  abbrev marked : List ℕ → Bool
  marked = is_marked atoms L marks

  abbrev passing : List (List ℕ)
  passing = filter marked (shorter characters far)

  words_pass : words_from atoms L marks 0 ≡ passing
  words_pass = ap (λ u. filter (λ w. marked (u ++ w)) (shorter characters far)) (row_zero atoms L rows)

  pass : (w : List ℕ) → IsIn w (take 1 passing) → (list_all is_scalar w ≡ true) × (marked w ≡ true)
  pass = first_pass atoms L (target_in atoms L) (leads_on atoms L rows) 0 (first_row atoms L rows) marked
      (shared atoms L rows marks) characters (C.different 0x110000) (C.scalars 0x110000) C.whole far 1

  down : (v w : List ℕ) → IsIn w (take 1 passing) → list_all is_scalar v ≡ true → marked v ≡ true
      → Before C.rank v w → IsIn v (take 1 passing)
  down = first_down atoms L (target_in atoms L) (leads_on atoms L rows) 0 (first_row atoms L rows) marked
      (shared atoms L rows marks) characters (C.different 0x110000) (C.scalars 0x110000) C.whole far C.rank
      (C.ordered 0x110000) 1

  pub none_marked : ((j : ℕ) → j < length L → get_or marks j false ≡ false)
      → take 1 (words_from atoms L marks 0) ≡ []
  none_marked none = ap (take 1) words_pass ∙ go (take 1 passing) refl where
    go : (ws : List (List ℕ)) → take 1 passing ≡ ws → ws ≡ []
    go [] e = refl
    go (w ∷ ws) e =
        let (s, t) = pass w (subst (λ z. IsIn w z) (sym e) (inl refl)) in
        absurd (true≢false (sym t ∙ none (row_of atoms L w) (row_below atoms L rows w s)))

  module _ (i : ℕ) (within : i < length L) (mark : get_or marks i false ≡ true)
      (none : (j : ℕ) → j < i → get_or marks j false ≡ false) where
    -- the first marked row comes no later than any marked row
    between : (j : ℕ) → j < length L → get_or marks j false ≡ true → NoLater (get_or L i []) (get_or L j [])
    between j m c = go (three_ways i j) where
      go : (i < j) ⊎ ((i ≡ j) ⊎ (j < i)) → NoLater (get_or L i []) (get_or L j [])
      go (inl o) = inr (ordered_at (Before C.rank) L [] i j (rows_ordered atoms L rows) o m)
      go (inr (inl q)) = inl (ap (λ z. get_or L z []) q)
      go (inr (inr o)) = absurd (true≢false (sym c ∙ none j o))

    -- it comes no later than any word that leads to a marked row
    no_later_than : (u : List ℕ) → list_all is_scalar u ≡ true → marked u ≡ true → NoLater (get_or L i []) u
    no_later_than u s t =
        let h = word_row atoms L rows u s in
        let (j, l, e) = in-get_or L h.first [] h.is_in in
        let c : get_or marks j false ≡ true =
        sym (mark_is atoms L rows marks j l) ∙ ap marked (sym e)
        ∙ sym (shared atoms L rows marks u h.first h.is_same) ∙ t in
        no_later (get_or L i []) (get_or L j []) u (between j l c)
        (subst (λ z. NoLater z u) e h.no_later)

    -- where a row is marked, the first word that leads to one is the word of the first row that is marked
    pub first_marked : 1 ≤ length (words_from atoms L marks 0)
        → take 1 (words_from atoms L marks 0) ≡ get_or L i [] ∷ []
    first_marked some = ap (take 1) words_pass ∙ go passing refl where
      go : (ws : List (List ℕ)) → passing ≡ ws → take 1 ws ≡ get_or L i [] ∷ []
      go [] e =
          let n : length (words_from atoms L marks 0) ≡ 0 = ap length (words_pass ∙ e) in
          absurd (omega (arith, some, n))
      go (u ∷ ws) e =
          let one : take 1 passing ≡ u ∷ [] = ap (take 1) e in
          let here : IsIn u (take 1 passing) = subst (λ z. IsIn u z) (sym one) (inl refl) in
          let (s, t) = pass u here in
          ap (λ z. z ∷ []) (same one here (no_later_than u s t)) where
            same : take 1 passing ≡ u ∷ [] → IsIn u (take 1 passing) → NoLater (get_or L i []) u → u ≡ get_or L i []
            same one here (inl q) = sym q
            same one here (inr o) =
                ⊎_elim (λ q. sym q) (λ x. absurd x)
                (subst (λ z. IsIn (get_or L i []) z) one
                (down (get_or L i []) u here
                (rows_words atoms L rows (get_or L i []) (get_or-in L i [] within))
                (mark_is atoms L rows marks i within ∙ mark) o))
