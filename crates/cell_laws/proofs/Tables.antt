-- A table of words as an automaton, and any test that words of one state share as a set of its rows.
use Rattle.std.proofs.Common.{◌≡◌, ℕ, zero, suc, ◌*◌, ◌≤◌, ◌<◌, inl, inr, ⊎_elim, List, [], ◌∷◌, ◌++◌, map, filter, length, get_or, Bool, true, refl, ap, sym, ◌∙◌, subst, append-nil, append_assoc}
use Rattle.std.specs.List.{list_all}
use Rattle.std.proofs.lemmas.Bool.{and_parts, and_from}
use Rattle.patterns.specs.CharSet.{is_scalar}
use Rattle.word_states.specs.Atom.{Atom}
use Rattle.word_states.specs.Classes.{are_alike, dividers, class_firsts, class_count, class_of}
use Rattle.word_states.specs.WordState.{word_state, have_same_state}
use Rattle.word_laws.proofs.Places.{place_below, place_same}
use Rattle.word_laws.proofs.Classes.{alike_laws, firsts_have}
use Rattle.word_laws.proofs.States.{state_decides, same_laws}
use Rattle.word_laws.proofs.StateSteps.{state_next}
use Rattle.cell_laws.specs.Leading.{AllIn, AllLead, walk}
use Rattle.cell_laws.proofs.Lists.{lead_all}
use Rattle.cell_laws.specs.FirstWords as F
use Rattle.list_laws.specs.In.{IsIn, Distinct}
use Rattle.list_laws.proofs.Lists.{from_flat_map, from_map, from_append}
use Rattle.cells.specs.WordsInOrder.{of_length, shorter}
use Rattle.cell_laws.specs.Counting.{count}
use Rattle.cell_laws.specs.RowTables.{IsRowOf, LeadsOn}
use Rattle.cell_laws.proofs.Listed.{filter_same, listed}
use Rattle.cell_laws.proofs.Settled.{count_is, at_most}

module _ (atoms : List Atom) (L : List (List ℕ)) (target : ℕ → ℕ → ℕ) (leads : LeadsOn atoms L target) where
  -- the row to which a character leads
  abbrev pub to : ℕ → ℕ → ℕ
  to r c = target r (class_of atoms c)

  pub class_below : (c : ℕ) → is_scalar c ≡ true → class_of atoms c < class_count atoms
  class_below c s =
      place_below (are_alike (dividers atoms)) (alike_laws (dividers atoms)) c (class_firsts atoms)
      (firsts_have atoms c s)

  same_next : (v w : List ℕ) (c d : ℕ) → have_same_state atoms v w ≡ true → are_alike (dividers atoms) c d ≡ true
      → have_same_state atoms (v ++ c ∷ []) (w ++ d ∷ []) ≡ true
  same_next v w c d e k =
      (state_decides (word_state atoms (v ++ c ∷ [])) (word_state atoms (w ++ d ∷ []))).1
      (state_next atoms v w c d ((state_decides (word_state atoms v) (word_state atoms w)).0 e) k)

  -- from a row of a word, another word leads to a row of both
  pub walked : (r : ℕ) (u w : List ℕ) → IsRowOf atoms L u r → list_all is_scalar w ≡ true
      → IsRowOf atoms L (u ++ w) (walk to r w)
  walked r u [] i s = subst (λ z. IsRowOf atoms L z r) (sym (append-nil u)) i
  walked r u (c ∷ w) i s =
      let (a, b) = and_parts (is_scalar c) (list_all is_scalar w) s in
      let v = get_or L r [] in
      let k = class_of atoms c in
      let f = get_or (class_firsts atoms) k 0 in
      let (l, e) = leads r k i.0 (class_below c a) in
      let n = same_next u v c f i.1
      (place_same (are_alike (dividers atoms)) (alike_laws (dividers atoms)) c 0 (class_firsts atoms)
      (firsts_have atoms c a)) in
      let here = (same_laws atoms).congr (u ++ c ∷ []) (v ++ f ∷ []) (get_or L (target r k) []) n ∙ e in
      subst (λ z. IsRowOf atoms L z (walk to (to r c) w)) (append_assoc u (c ∷ []) w)
      (walked (to r c) (u ++ c ∷ []) w (l, here) b)

  -- a test of words that words of one state share
  module _ (p : List ℕ → Bool) (shared : (v w : List ℕ) → have_same_state atoms v w ≡ true → p v ≡ p w) where
    abbrev pub in_rows : ℕ → Bool
    in_rows r = p (get_or L r [])

    pub tested : (r : ℕ) (u w : List ℕ) → IsRowOf atoms L u r → list_all is_scalar w ≡ true
        → in_rows (walk to r w) ≡ p (u ++ w)
    tested r u w i s =
        let (l, e) = walked r u w i s in sym (shared (u ++ w) (get_or L (walk to r w) []) e)

    module _ (characters : List ℕ) (different : Distinct characters)
        (scalars : (c : ℕ) → IsIn c characters → is_scalar c ≡ true)
        (whole : (c : ℕ) → is_scalar c ≡ true → IsIn c characters) where
      shorter_words : (n : ℕ) (w : List ℕ) → IsIn w (of_length characters n) → list_all is_scalar w ≡ true
      shorter_words zero w (inl e) = subst (λ z. list_all is_scalar z ≡ true) (sym e) refl
      shorter_words zero w (inr i) = absurd i
      shorter_words (suc n) w i =
          let (c, a, j) = from_flat_map (λ c. map (λ w. c ∷ w) (of_length characters n)) w characters i in
          let (v, b, e) = from_map (λ w. c ∷ w) w (of_length characters n) j in
          subst (λ z. list_all is_scalar z ≡ true) (sym e)
          (and_from (is_scalar c) (list_all is_scalar v) (scalars c a) (shorter_words n v b))

      pub below_words : (n : ℕ) (w : List ℕ) → IsIn w (shorter characters n) → list_all is_scalar w ≡ true
      below_words zero w i = absurd i
      below_words (suc n) w i =
          ⊎_elim (λ j. below_words n w j) (λ j. shorter_words n w j)
          (from_append w (shorter characters n) (of_length characters n) i)

      -- the words after which a word passes the test are those that lead from its row to such a row
      pub passed : (r : ℕ) (u : List ℕ) → IsRowOf atoms L u r → (n : ℕ)
          → filter (λ w. p (u ++ w)) (shorter characters n) ≡ F.shorter characters to in_rows n r
      passed r u i n =
          filter_same (λ w. p (u ++ w)) (λ w. in_rows (walk to r w)) (shorter characters n)
          (λ w j. sym (tested r u w i (below_words n w j)))
          ∙ listed characters to in_rows n r

      pub counted_words : (r : ℕ) (u : List ℕ) → IsRowOf atoms L u r → (n : ℕ)
          → length (filter (λ w. p (u ++ w)) (shorter characters n)) ≡ count characters to in_rows n r
      counted_words r u i n = ap length (passed r u i n) ∙ count_is characters to in_rows n r

      pub letters_of : (w : List ℕ) → list_all is_scalar w ≡ true → AllIn characters w
      letters_of [] s = tt
      letters_of (c ∷ w) s =
          let (a, b) = and_parts (is_scalar c) (list_all is_scalar w) s in (whole c a, letters_of w b)

      pub classed : (c : ℕ) → IsIn c characters → class_of atoms c < class_count atoms
      classed c i = class_below c (scalars c i)

      pub within : (r k : ℕ) → r < length L → k < class_count atoms → target r k < length L
      within r k l m = (leads r k l m).0

      pub closed : (r c : ℕ) → r < length L → IsIn c characters → to r c < length L
      closed r c l i = within r (class_of atoms c) l (classed c i)

      -- words that pass all lead there
      pub all_lead : (r : ℕ) (u : List ℕ) → IsRowOf atoms L u r → (ws : List (List ℕ))
          → ((w : List ℕ) → IsIn w ws → (list_all is_scalar w ≡ true) × (p (u ++ w) ≡ true))
          → AllLead characters to in_rows r ws
      all_lead r u j ws h = lead_all characters to in_rows r ws (λ w i.
          let (a, t) = h w (i) in (letters_of w a, tested r u w j a ∙ t))

      module _ (bound far : ℕ) (enough : length L * bound ≤ far) where
        -- where the listed words that pass are fewer than the bound, no different words that pass are more
        pub no_others : (r : ℕ) (u : List ℕ) → IsRowOf atoms L u r
            → length (filter (λ w. p (u ++ w)) (shorter characters far)) < bound
            → (ws : List (List ℕ)) → Distinct ws
            → ((w : List ℕ) → IsIn w ws → (list_all is_scalar w ≡ true) × (p (u ++ w) ≡ true))
            → length ws ≤ length (filter (λ w. p (u ++ w)) (shorter characters far))
        no_others r u i l ws d h =
            let e = counted_words r u i far in
            subst (λ k. length ws ≤ k) (sym e)
            (at_most characters to in_rows (length L) bound closed far enough r i.0
            (subst (λ k. k < bound) e l) ws d (all_lead r u i ws h))
