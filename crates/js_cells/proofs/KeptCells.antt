-- The cells by an automaton whose rows say what the literals say are cells of all names, and the numbers of words that
-- are listed are exact.
use Rattle.std.proofs.Common.{◌≡◌, ℕ, ◌*◌, ◌<◌, ◌≤◌, min, true, nat_eq, List, [], ◌++◌, take, length, get_or, refl, ap, sym, ◌∙◌, arith}
use Rattle.std.specs.List.{list_all}
use Rattle.std.proofs.lemmas.Bool.{and_from, and_parts, eqb-true}
use Rattle.std.proofs.lemmas.List.{get_or-map, length-map, length-take-le}
use Rattle.std.proofs.lemmas.List.Folds.{list_all-append}
use Rattle.documents.specs.Tests.{every}
use Rattle.documents.specs.Tests as D
use Rattle.patterns.specs.CharSet.{is_scalar}
use Rattle.list_laws.specs.In.{IsIn}
use Rattle.list_laws.proofs.Lists.{get_or-in, from_take}
use Rattle.list_laws.proofs.Tests.{from_filter}
use Rattle.word_states.specs.Atom.{Atom}
use Rattle.word_states.specs.Classes.{characters}
use Rattle.word_states.specs.Rows.{AreRows, row_of}
use Rattle.word_states.specs.WordState.{have_same_state}
use Rattle.word_laws.proofs.RowLaws.{rows_words}
use Rattle.positions.specs.Position.{Position}
use Rattle.goals.specs.Signed.{Signed}
use Rattle.cells.specs.Cells.{Cells, naming, vector, place, vectors_of, cell_of, cells}
use Rattle.cells.specs.WordsInOrder.{shorter}
use Rattle.cell_laws.specs.RightCells.{AreCells}
use Rattle.cell_laws.specs.RowTables.{IsRowOf}
use Rattle.cell_laws.proofs.CellsOfRows.{cells_are}
use Rattle.cell_laws.proofs.Characters as C
use Rattle.cell_laws.proofs.Lists.{distinct_take}
use Rattle.cell_laws.proofs.Rows.{target_in, leads_on, row_is, first_row}
use Rattle.cell_laws.proofs.Tables.{no_others}
use Rattle.cell_laws.proofs.WordsInOrderLaws.{differ_filter, shorter_is, shorter_differ}
use Rattle.alternatives.specs.Limit.{most_states, most_words}
use Rattle.finders.specs.WordsFound.{far, words_found}
use Rattle.finder_laws.proofs.Strings.{scalars_same}
use Rattle.js_said.specs.Vectors.{row_places}
use Rattle.js_cells.specs.Counting.{AreEnds, IsCount}
use Rattle.list_laws.proofs.Numbers.{nat_eq-refl}

enough : (n : ℕ) → n ≤ most_states → n * most_words ≤ far
unfolding far
enough n few = product n most_states most_words few where
  product : (a b c : ℕ) → a ≤ b → a * c ≤ b * c
  product a b c l = grind (arith, l)

module _ (T : List Position) (S : List Signed) (atoms : List Atom) (L : List (List ℕ)) (rows : AreRows atoms L)
    (few : length L ≤ most_states)
    (same : (v w : List ℕ) → have_same_state atoms v w ≡ true
    → vector T (naming T S) v ≡ vector T (naming T S) w) where
  abbrev pub kept : Cells
  kept = cells characters far most_words T S L

  -- the words that are listed after a word, to be names of a cell
  abbrev pub ends : ℕ → List ℕ → List (List ℕ)
  ends c u = words_found characters far (λ w. nat_eq (cell_of T kept (u ++ w)) c)

  module _ (c : ℕ) (u : List ℕ) (r : ℕ) (row : IsRowOf atoms L u r) (s : list_all is_scalar u ≡ true) where
    -- where they are few there are no more
    ends_all : length (ends c u) < most_words → (ws : List (List ℕ)) → AreEnds T kept c u ws
        → length ws ≤ length (ends c u)
    ends_all l ws are =
        no_others atoms L (target_in atoms L) (leads_on atoms L rows) (λ w. nat_eq (cell_of T kept w) c)
        (λ v w e. ap (λ z. nat_eq (place z (vectors_of T (naming T S) L)) c) (same v w e))
        characters (C.different 0x110000) (C.scalars 0x110000) C.whole most_words far (enough (length L) few) r u
        row l ws are.0
        (λ w i. let (a, b) = are.1 w i in (
          (and_parts (list_all is_scalar u) (list_all is_scalar w)
              (sym (list_all-append is_scalar u w) ∙ sym (scalars_same (u ++ w)) ∙ a)).1,
          ap (λ z. nat_eq z c) b ∙ nat_eq-refl c,
        ))

    pub ends_are : AreEnds T kept c u (ends c u)
    ends_are = (
      differ_filter (λ w. nat_eq (cell_of T kept (u ++ w)) c) (shorter characters far)
          (shorter_differ characters (C.different 0x110000) (C.scalars 0x110000) far),
      λ w i.
          let (a, b) = from_filter (λ w. nat_eq (cell_of T kept (u ++ w)) c) w (shorter characters far) i in
          let t = (shorter_is characters (C.different 0x110000) (C.scalars 0x110000) far w a).1 in (
            scalars_same (u ++ w) ∙ list_all-append is_scalar u w
                ∙ and_from (list_all is_scalar u) (list_all is_scalar w) s (sym (scalars_same w) ∙ t),
            eqb-true (cell_of T kept (u ++ w)) c b,
          ),
    )

    pub counted : (n : ℕ) → n ≡ min 65537 (length (ends c u)) → IsCount T kept c u n
    counted n e = record {
      some = (
        take n (ends c u),
        length-take-le n (ends c u) (least n (length (ends c u)) e),
        (distinct_take n (ends c u) ends_are.0, λ w i. ends_are.1 w (from_take n w (ends c u) i)),
      );
      all = λ l ws are.
          let m = cut n (length (ends c u)) e l in
          let k = ends_all (omega (arith, m, l)) ws are in omega (arith, k, m);
    } where
      least : (n k : ℕ) → n ≡ min 65537 k → n ≤ k
      least n k e = grind (arith, e)

      cut : (n k : ℕ) → n ≡ min 65537 k → n < 65537 → k ≡ n
      cut n k e l = grind (arith, e, l)

  -- a name has a row, whose word is in its cell
  rowed : (w : List ℕ) → every D.is_scalar w ≡ true
      → (v : List ℕ) × IsIn v L × (vector T (naming T S) w ≡ vector T (naming T S) v)
  rowed w s =
      let (l, e) = row_is atoms L rows w (sym (scalars_same w) ∙ s) in (
        get_or L (row_of atoms L w) [],
        get_or-in L (row_of atoms L w) [] l,
        same w (get_or L (row_of atoms L w) []) e,
      )

  pub kept_cells : AreCells T S kept
  kept_cells =
      cells_are characters (C.different 0x110000) (C.scalars 0x110000) far most_words T S L rowed
      (λ c l ws d of_cell. ends_all c [] 0 (first_row atoms L rows) refl l ws (d, of_cell))

  -- the places of rows are the cells of their words

  pub places-length : (places : List ℕ) → places ≡ row_places T S L → length places ≡ length L
  places-length places e =
      ap length e ∙ length-map L (λ w. place (vector T (naming T S) w) (vectors_of T (naming T S) L))

  pub place_at : (places : List ℕ) → places ≡ row_places T S L → (r : ℕ) → r < length L
      → get_or places r 0 ≡ cell_of T kept (get_or L r [])
  place_at places e r l =
      ap (λ z. get_or z r 0) e
      ∙ get_or-map (λ w. place (vector T (naming T S) w) (vectors_of T (naming T S) L)) L r [] 0 l

  pub cell_below : (r : ℕ) → r < length L → cell_of T kept (get_or L r []) < length kept.vectors
  cell_below r l =
      kept_cells.known (get_or L r [])
      (scalars_same (get_or L r []) ∙ rows_words atoms L rows (get_or L r []) (get_or-in L r [] l))

  -- a word that leads to a row is in its cell
  pub cell_led : (w : List ℕ) (r : ℕ) → list_all is_scalar w ≡ true → row_of atoms L w ≡ r
      → cell_of T kept w ≡ cell_of T kept (get_or L r [])
  cell_led w r s e =
      let (l, h) = row_is atoms L rows w s in
      ap (λ z. place z (vectors_of T (naming T S) L)) (same w (get_or L (row_of atoms L w) []) h)
      ∙ ap (λ k. cell_of T kept (get_or L k [])) e
