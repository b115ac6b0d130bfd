-- The cells of rows that were stated are the cells of names, and bounds that keep the rule bound them.
use Rattle.std.proofs.Common.{◌≡◌, ℕ, ◌≤◌, List, [], ◌∷◌, length, get_or, cond, Bool, true, false, nat_eq, Some, refl, ap, sym, ◌∙◌, subst, arith}
use Rattle.std.proofs.lemmas.Bool.{and_parts, eqb-true, eq-eqb, leb-true}
use Rattle.std.specs.List.{range_with_len}
use Rattle.documents.specs.Tests.{every}
use Rattle.documents.specs.Tests as D
use Rattle.word_states.specs.Atom.{Atom}
use Rattle.word_states.specs.Classes.{characters, class_of, class_count}
use Rattle.word_states.specs.WordState.{have_same_state}
use Rattle.positions.specs.Position.{Position}
use Rattle.goals.specs.Signed.{Signed}
use Rattle.list_laws.specs.In.{IsIn, Distinct}
use Rattle.list_laws.proofs.Lists.{every_at, get_or-in}
use Rattle.list_laws.proofs.Tests.{in_range}
use Rattle.cells.specs.Cells.{Cells, naming, vector, place, cells}
use Rattle.cell_laws.specs.Leading.{walk}
use Rattle.cell_laws.specs.RightCells.{IsOf, AreCells}
use Rattle.cell_laws.proofs.Groups.{width}
use Rattle.cell_laws.proofs.Classes.{asked_widths, KeepsRule}
use Rattle.cell_laws.proofs.Widths.{width_is}
use Rattle.cell_laws.proofs.Tables.{to, walked}
use Rattle.cell_laws.proofs.Labels as L
use Rattle.cell_laws.proofs.CellsOfRows.{cells_are}
use Rattle.cell_laws.proofs.Characters.{scalars, different, whole}
use Rattle.object_laws.proofs.Numbered.{AreBounds}
use Rattle.finders.specs.WordsFound.{far}
use Rattle.finders.specs.Names.{atoms_of_names}
use Rattle.finder_laws.proofs.Strings.{scalars_same}
use Rattle.verdicts.specs.RowLines.{Table, stated}
use Rattle.verdicts.specs.Bounds.{Bound, bounds_of, width_of, has_row, keeps, is_right}
use Rattle.verdicts.specs.Leaves.{table_cells}
use Rattle.verdict_laws.proofs.RowsTaken.{AreStated}
use Rattle.finder_laws.proofs.Names.{vector_same}

module _ (T : List Position) (S : List Signed) (t : Table (List ℕ)) (h : AreStated (atoms_of_names T S) t) where
  abbrev atoms : List Atom
  atoms = atoms_of_names T S

  abbrev C : Cells
  C = table_cells T S t

  -- each name has a row
  rowed : (w : List ℕ) → every D.is_scalar w ≡ true
      → (v : List ℕ) × IsIn v t.words × (vector T (naming T S) w ≡ vector T (naming T S) v)
  rowed w s =
      let r = walk (to atoms t.words (stated t) h.leads) 0 w in
      let (l, e) = walked atoms t.words (stated t) h.leads 0 [] w h.first (sym (scalars_same w) ∙ s) in
      (get_or t.words r [], get_or-in t.words r [] l, vector_same T S w (get_or t.words r []) e)

  -- of cells of which no words are listed, so that none are counted
  bare_cells : AreCells T S (cells characters far 0 T S t.words)
  bare_cells =
      cells_are characters (different 0x110000) (scalars 0x110000) far 0 T S t.words rowed
      (λ c l. absurd (omega (arith, l)))

  -- which literal is true of which cell depends on names and vectors alone
  pub stated_cells : AreCells T S (table_cells T S t)
  stated_cells = record { known = bare_cells.known; exact = bare_cells.exact }

  -- a word is in the cell of that number
  abbrev is_in : ℕ → List ℕ → Bool
  is_in c w = nat_eq (place (vector T (naming T S) w) C.vectors) c

  is_in_shared : (c : ℕ) (v w : List ℕ) → have_same_state atoms v w ≡ true → is_in c v ≡ is_in c w
  is_in_shared c v w e = ap (λ z. nat_eq (place z C.vectors) c) (vector_same T S v w e)

  abbrev Right : Bound → Type 0
  Right b = is_right T atoms t.words (stated t) C b ≡ true

  rule_kept : (b : Bound) → Right b
      → KeepsRule (length t.words) (class_count atoms) (width (class_of atoms) characters)
      (stated t) (λ r. is_in b.0 (get_or t.words r [])) (λ q. get_or b.1 q 0)
  rule_kept b e r l =
      let (n, rule) = and_parts (nat_eq (length b.1) (length t.words))
      (every (keeps T atoms t.words (stated t) C b.0 b.1)
      (range_with_len 0 (length t.words))) e in
      let m = leb-true _ _
      (every_at (keeps T atoms t.words (stated t) C b.0 b.1) r
      (range_with_len 0 (length t.words)) rule (in_range (length t.words) r l)) in
      let q = asked_widths (class_count atoms) (width (class_of atoms) characters)
      (width_of atoms) (stated t) (λ r. is_in b.0 (get_or t.words r []))
      (has_row T atoms t.words (stated t) C b.0) (λ q. get_or b.1 q 0)
      (λ j i. width_is atoms j i) (λ r. refl) r in
      omega (arith, m, q)

  one_bounds : (b : Bound) → Right b → (ws : List (List ℕ)) → Distinct ws
      → ((w : List ℕ) → IsIn w ws → IsOf T C b.0 w) → length ws ≤ get_or b.1 0 0
  one_bounds b e ws d i =
      L.labels_bound atoms t.words (stated t) h.leads (is_in b.0) (is_in_shared b.0) characters
      (different 0x110000) (scalars 0x110000) whole (λ q. get_or b.1 q 0) (rule_kept b e) 0 [] h.first ws d
      (λ w j. let (s, q) = i w j in (
        sym (scalars_same w) ∙ s,
        eq-eqb (place (vector T (naming T S) w) C.vectors) b.0 q,
      ))

  pub stated_bounds : (bs : List Bound)
      → every (is_right T (atoms_of_names T S) t.words (stated t) (table_cells T S t)) bs ≡ true
      → AreBounds T (table_cells T S t) (bounds_of bs)
  stated_bounds [] e c n f ws d i = cc
  stated_bounds (b ∷ bs) e c n f ws d i =
      let (own, rest) = and_parts (is_right T atoms t.words (stated t) C b)
      (every (is_right T atoms t.words (stated t) C) bs) e in
      go (nat_eq b.0 c) refl f own (λ g. stated_bounds bs rest c n g ws d i) where
        go : (z : Bool) → nat_eq b.0 c ≡ z → cond z (Some (get_or b.1 0 0)) (bounds_of bs c) ≡ Some n → Right b
            → (bounds_of bs c ≡ Some n → length ws ≤ n) → length ws ≤ n
        go false q f own more = more f
        go true q f own more =
            let p : get_or b.1 0 0 ≡ n = cc in
            let l = one_bounds b own ws d
            (λ w j. subst (λ z. IsOf T C z w) (sym (eqb-true b.0 c q)) (i w j)) in
            omega (arith, p, l)
