-- The cells that are found for a set are cells of names: each name is in one, which gives what the literals of the set
-- say of it, and the words of a cell are different names of it, all of them where they are few.
use Rattle.std.proofs.Common.{◌≡◌, ℕ, ◌*◌, ◌≤◌, ◌<◌, inl, inr, Bool, true, ◌||◌, ◌&&◌, not, List, [], ◌∷◌, map, length, nat_eq, get_or, Option, Some, None, Ok, is_some, refl, ap, ap₂, sym, ◌∙◌, subst, arith}
use Rattle.documents.specs.Tests.{every, some, same_word}
use Rattle.documents.specs.Tests as D
use Rattle.word_states.specs.Atom as W
use Rattle.word_states.specs.Atom.{Atom, is_true}
use Rattle.word_states.specs.Classes.{characters}
use Rattle.word_states.specs.Rows.{AreRows, row_of}
use Rattle.word_states.specs.WordState.{have_same_state}
use Rattle.positions.specs.Position.{Position, NameSet, Named, Matching, Others, position_at}
use Rattle.positions.specs.Holds.{in_set, matches, IsTable}
use Rattle.positions.specs.NameFormula as F
use Rattle.positions.specs.NameFormula.{NameFormula, name_meets}
use Rattle.goals.specs.Signed.{Signed, position_of}
use Rattle.list_laws.specs.In.{IsIn, Distinct}
use Rattle.list_laws.proofs.Lists.{in_left, in_right, in_map, get_or-in, in_flat_map}
use Rattle.list_laws.proofs.Tests.{from_filter, same_word_comm}
use Rattle.name_truths.specs.NameTruth.{atoms, AreTrue}
use Rattle.name_truths.specs.NameAtoms.{formula_of, set_atoms, formula_atoms, position_atoms, name_atoms}
use Rattle.name_laws.proofs.NameLaws.{holds_by_truths, pointwise-same_word}
use Rattle.cells.specs.Cells.{Cells, meets_formula, says, naming, vector, place, vectors_of, cells}
use Rattle.cell_laws.specs.RightCells.{IsOf}
use Rattle.cell_laws.proofs.Rows.{target_in, leads_on, row_is, first_row}
use Rattle.cell_laws.proofs.Tables.{no_others}
use Rattle.cell_laws.proofs.CellsOfRows.{cells_are, words_are}
use Rattle.cell_laws.proofs.Characters as C
use Rattle.alternatives.specs.Limit.{LimitKind, most_states, most_words}
use Rattle.expansion_laws.proofs.Containers.{IsCells}
use Rattle.finders.specs.Limits.{rows_found, limit_passed, unless_passed}
use Rattle.finders.specs.WordsFound.{far}
use Rattle.finders.specs.Names.{atoms_of_names, cells_of}
use Rattle.finder_laws.proofs.Once.{once_has}
use Rattle.finder_laws.proofs.RowsFound.{none_passed}
use Rattle.finder_laws.proofs.Strings.{scalars_same}
use Rattle.finder_laws.proofs.Wanted.{truth_same}
use Rattle.std.proofs.Math.Bool.{or-false}
use Rattle.list_laws.proofs.Numbers.{nat_eq-refl}

-- what is said of words whose atoms have the same truths

-- one name is an atom
one_name : (w n : List ℕ) → is_true (W.Words (n ∷ [])) w ≡ same_word n w
one_name w n = or-false (W.same_word w n) ∙ pointwise-same_word w n ∙ same_word_comm w n

some_same : {A : Type 0} (p q : A → Bool) (xs : List A) → ((x : A) → IsIn x xs → p x ≡ q x)
    → some p xs ≡ some q xs
some_same p q [] h = refl
some_same p q (x ∷ xs) h = ap₂ (λ a b. a || b) (h x (inl refl)) (some_same p q xs (λ y i. h y (inr i)))

map_same : {A B : Type 0} (f g : A → B) (xs : List A) → ((x : A) → IsIn x xs → f x ≡ g x)
    → map f xs ≡ map g xs
map_same f g [] h = refl
map_same f g (x ∷ xs) h = ap₂ (λ a b. a ∷ b) (h x (inl refl)) (map_same f g xs (λ y i. h y (inr i)))

module _ (T : List Position) (v w : List ℕ) where
  abbrev Agree : List Atom → Type 0
  Agree xs = (a : Atom) → IsIn a xs → is_true a v ≡ is_true a w

  agree_true : (xs : List Atom) → Agree xs → AreTrue (λ a. is_true a v) w xs
  agree_true [] h = tt
  agree_true (a ∷ xs) h = (h a (inl refl), agree_true xs (λ b i. h b (inr i)))

  itself : (xs : List Atom) → AreTrue (λ a. is_true a v) v xs
  itself [] = tt
  itself (a ∷ xs) = (refl, itself xs)

  one_same : (n : List ℕ) → Agree (W.Words (n ∷ []) ∷ []) → same_word n v ≡ same_word n w
  one_same n h = sym (one_name v n) ∙ h (W.Words (n ∷ [])) (inl refl) ∙ one_name w n

  set_same : (s : NameSet) → Agree (set_atoms s) → in_set s v ≡ in_set s w
  set_same (Named n) h = one_same n h
  set_same (Matching r) h = h (W.Match r.tree) (inl refl)
  set_same (Others ns rs) h =
      ap₂ (λ a b. not a && not b)
      (some_same (same_word v) (same_word w) ns (λ n i.
      same_word_comm v n
      ∙ one_same n (λ a j.
      h a (in_left a (map (λ n. W.Words (n ∷ [])) ns) (map (λ r. W.Match r.tree) rs)
      (listed n ns i a j)))
      ∙ same_word_comm n w))
      (some_same (λ r. matches r v) (λ r. matches r w) rs (λ r i.
      h (W.Match r.tree)
      (in_right (W.Match r.tree) (map (λ n. W.Words (n ∷ [])) ns) (map (λ r. W.Match r.tree) rs)
      (in_map (λ r. W.Match r.tree) r rs i))))
    where
      listed : (n : List ℕ) (ns : List (List ℕ)) → IsIn n ns → (a : Atom) → IsIn a (W.Words (n ∷ []) ∷ [])
          → IsIn a (map (λ n. W.Words (n ∷ [])) ns)
      listed n ns i a (inl e) =
          subst (λ z. IsIn z (map (λ n. W.Words (n ∷ [])) ns)) (sym e) (in_map (λ n. W.Words (n ∷ [])) n ns i)
      listed n ns i a (inr j) = absurd j

  formula_same : (f : NameFormula) → Agree (formula_atoms T f) → name_meets T f v ≡ name_meets T f w
  formula_same (F.Is n) h = one_same n h
  formula_same (F.In s) h = set_same s h
  formula_same (F.Holds p) h =
      sym (holds_by_truths T (λ a. is_true a v) v p (itself (atoms T p)))
      ∙ holds_by_truths T (λ a. is_true a v) w p (agree_true (atoms T p) h)

  said_same : (o : Option NameFormula) → Agree (position_atoms T o) → meets_formula T o v ≡ meets_formula T o w
  said_same None h = refl
  said_same (Some f) h = formula_same f h

module _ (T : List Position) (S : List Signed) where
  -- of words of one state the literals say the same
  pub vector_same : (v w : List ℕ) → have_same_state (atoms_of_names T S) v w ≡ true
      → vector T (naming T S) v ≡ vector T (naming T S) w
  vector_same v w same =
      map_same (λ x. says T x v) (λ x. says T x w) (naming T S) (λ x i.
      said_same T v w (formula_of (position_at T (position_of x))) (λ a j.
      truth_same (atoms_of_names T S) v w same a
      (once_has a (name_atoms T S)
      (in_flat_map (λ x. position_atoms T (formula_of (position_at T (position_of x)))) a x S
      (from_filter (λ x. is_some (formula_of (position_at T (position_of x)))) x S i).0 j))))

  module _ (L : List (List ℕ)) (rows : AreRows (atoms_of_names T S) L) (few : length L ≤ most_states) where
    abbrev found : Cells
    found = cells characters far most_words T S L

    -- each name has a row
    rowed : (w : List ℕ) → every D.is_scalar w ≡ true
        → (v : List ℕ) × IsIn v L × (vector T (naming T S) w ≡ vector T (naming T S) v)
    rowed w s =
        let (l, e) = row_is (atoms_of_names T S) L rows w (sym (scalars_same w) ∙ s) in (
          get_or L (row_of (atoms_of_names T S) L w) [],
          get_or-in L (row_of (atoms_of_names T S) L w) [] l,
          vector_same w (get_or L (row_of (atoms_of_names T S) L w) []) e,
        )

    enough : length L * most_words ≤ far
    unfolding far
    enough = product (length L) most_states most_words few where
      product : (a b c : ℕ) → a ≤ b → a * c ≤ b * c
      product a b c l = grind (arith, l)

    -- where the words of a cell are few, no list of different names is longer
    exact_count : (c : ℕ) → length (found.words c) < most_words → (ws : List (List ℕ)) → Distinct ws
        → ((w : List ℕ) → IsIn w ws → IsOf T found c w) → length ws ≤ length (found.words c)
    exact_count c l ws d of_cell =
        no_others (atoms_of_names T S) L (target_in (atoms_of_names T S) L) (leads_on (atoms_of_names T S) L rows)
        (λ w. nat_eq (place (vector T (naming T S) w) (vectors_of T (naming T S) L)) c)
        (λ v w e. ap (λ z. nat_eq (place z (vectors_of T (naming T S) L)) c) (vector_same v w e))
        characters (C.different 0x110000) (C.scalars 0x110000) C.whole most_words far enough 0 []
        (first_row (atoms_of_names T S) L rows) l ws d
        (λ w i. let (s, e) = of_cell w i in (sym (scalars_same w) ∙ s, ap (λ z. nat_eq z c) e ∙ nat_eq-refl c))

    found_cells : (ok : IsTable T) → IsCells T ok S found
    found_cells ok = record {
      cells = cells_are characters (C.different 0x110000) (C.scalars 0x110000) far most_words T S L rowed exact_count;
      words = words_are characters (C.different 0x110000) (C.scalars 0x110000) far most_words T S L rowed exact_count;
      bound = refl;
    }

  -- what is found without a limit
  pub cells_found : (ok : IsTable T) (C : Cells) → cells_of T S ≡ Ok C → IsCells T ok S C
  cells_found ok C e = go (limit_passed characters most_states (atoms_of_names T S)) refl e where
    go : (o : Option LimitKind) → limit_passed characters most_states (atoms_of_names T S) ≡ o
        → unless_passed o
        (cells characters far most_words T S (rows_found characters most_states (atoms_of_names T S))) ≡ Ok C
        → IsCells T ok S C
    go (Some k) p h = cc
    go None p h =
        let (rows, few) = none_passed (atoms_of_names T S) most_states p in
        subst (λ z. IsCells T ok S z) (cc h)
        (found_cells (rows_found characters most_states (atoms_of_names T S)) rows few ok)
