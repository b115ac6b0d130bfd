-- The rows of a list of atoms are such a table.
use Rattle.std.proofs.Common.{◌≡◌, ℕ, ◌<◌, inl, inr, List, [], ◌∷◌, ◌++◌, length, get_or, true, sym, ◌∙◌, subst, arith}
use Rattle.std.specs.List.{list_all}
use Rattle.std.proofs.lemmas.Bool.{cases_lt}
use Rattle.std.proofs.lemmas.Map.Keys.{apart_from_distinct}
use Rattle.patterns.specs.CharSet.{is_scalar}
use Rattle.word_states.specs.Atom.{Atom}
use Rattle.word_states.specs.Classes.{class_firsts}
use Rattle.word_states.specs.WordState.{have_same_state}
use Rattle.word_states.specs.Rows.{AreRows, row_of, targets_of, longer_by_one}
use Rattle.std.proofs.lemmas.List.{get_or-map}
use Rattle.list_laws.proofs.Lists.{get_or-in}
use Rattle.word_laws.proofs.Places.{place_below, place_same}
use Rattle.word_laws.proofs.Mentions as M
use Rattle.word_laws.proofs.Classes.{firsts_scalar}
use Rattle.word_laws.proofs.States.{same_laws}
use Rattle.word_laws.proofs.RowLaws.{rows_apart, rows_words, rows_all, all_end}
use Rattle.cell_laws.specs.Leading.{walk}
use Rattle.cell_laws.specs.RowTables.{IsRowOf, LeadsOn}
use Rattle.cell_laws.proofs.Tables as T

-- a row's target by the number of a class
abbrev pub target_in : List Atom → List (List ℕ) → ℕ → ℕ → ℕ
target_in atoms L r k = get_or (targets_of atoms L (get_or L r [])) k 0

module _ (atoms : List Atom) (L : List (List ℕ)) (rows : AreRows atoms L) where
  -- each word has its row
  pub row_is : (w : List ℕ) → list_all is_scalar w ≡ true → IsRowOf atoms L w (row_of atoms L w)
  row_is w s =
      let h = rows_all atoms L rows w s in (
        place_below (have_same_state atoms) (same_laws atoms) w L h,
        place_same (have_same_state atoms)
            (same_laws atoms) w [] L h,
      )

  pub leads_on : LeadsOn atoms L (target_in atoms L)
  leads_on r k l m =
      let v = get_or L r [] in
      let f = get_or (class_firsts atoms) k 0 in
      subst (λ z. IsRowOf atoms L (v ++ f ∷ []) z)
      (sym (get_or-map (λ c. row_of atoms L (v ++ c ∷ [])) (class_firsts atoms) k 0 0 m))
      (row_is (v ++ f ∷ [])
      (all_end v f (rows_words atoms L rows v (get_or-in L r [] l))
      (firsts_scalar atoms f (get_or-in (class_firsts atoms) k 0 m))))

  -- a word has no other row
  pub one_row : (w : List ℕ) (r q : ℕ) → IsRowOf atoms L w r → IsRowOf atoms L w q → r ≡ q
  one_row w r q i j = elim (cases_lt r q) [
    | inl m ↦ absurd (apart r q m i j)
    | inr m ↦ elim (cases_lt q r) [
      | inl n ↦ absurd (apart q r n j i)
      | inr n ↦ omega (arith, m, n)
    ]
  ] where
    apart : (r q : ℕ) → r < q → IsRowOf atoms L w r → IsRowOf atoms L w q → ⊥
    apart r q m i j =
        let f = apart_from_distinct (have_same_state atoms) L r q [] (rows_apart atoms L rows) m j.0 in
        let s = (same_laws atoms).congr w (get_or L r []) (get_or L q []) i.1 in
        let t : have_same_state atoms (get_or L r []) (get_or L q []) ≡ true = sym s ∙ j.1 in
        cc (t, f)

  -- the empty word has the first
  pub first_row : IsRowOf atoms L [] 0
  first_row =
      let (X, e) = M.mentions_grow (have_same_state atoms) (same_laws atoms) ([] ∷ [])
      (longer_by_one (class_firsts atoms) L) in
      subst (λ z. IsRowOf atoms z [] 0) (sym (rows ∙ e)) (omega arith, (same_laws atoms).refl [])

  -- each row is reached by its word
  pub row_reached : (r : ℕ) → r < length L → (w : List ℕ) × (list_all is_scalar w ≡ true)
      × (walk (T.to atoms L (target_in atoms L) leads_on) 0 w ≡ r)
  row_reached r l =
      let w = get_or L r [] in
      let s = rows_words atoms L rows w (get_or-in L r [] l) in (
        w,
        s,
        one_row w (walk (T.to atoms L (target_in atoms L) leads_on) 0 w) r
            (T.walked atoms L (target_in atoms L) leads_on 0 [] w first_row s) (l, (same_laws atoms).refl w),
      )
