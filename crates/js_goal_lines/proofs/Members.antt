-- The lines of a set that no object meets, piece by piece.
use Rattle.std.proofs.Common.{◌≡◌, ℕ, List, [], ◌∷◌, ◌++◌, map, length, Option, ap, ◌∙◌}
use Rattle.word_states.specs.Atom.{Atom}
use Rattle.word_states.specs.Classes.{characters}
use Rattle.positions.specs.Position.{Position}
use Rattle.goals.specs.Signed.{Signed}
use Rattle.cells.specs.Cells.{Cells, cells}
use Rattle.alternatives.specs.Limit.{most_words}
use Rattle.frames.specs.Frame.{Frame}
use Rattle.frames.specs.ObjectFrame.{object_frame}
use Rattle.finders.specs.WordsFound.{far}
use Rattle.finders.specs.Names.{atoms_of_names}
use Rattle.certificate_lines.specs.Line as L
use Rattle.certificate_lines.specs.Line.{Line}
use Rattle.verdicts.specs.Duties.{OfObjects}
use Rattle.refutations.specs.PlanTreeLines.{plan_lines}
use Rattle.refutations.specs.StatedRows as stated
use Rattle.refutations.specs.StatedRows.{row_lines}
use Rattle.refutations.specs.ObjectLines.{cap_line, cells_at, frame_at, member_lines, object_lines, capped}
use Rattle.js_automaton.specs.AutomatonView.{atoms_of, rows_of}
use Rattle.js_automaton.specs.declared.automaton.Automaton.{Automaton}
use Rattle.js_row_lines.proofs.OwnRows.{own_rows}
use Rattle.js_objects.specs.Steps.{IsOfNames, cells_by}
use Rattle.js_goal_lines.proofs.Adding.{two-pieces}

module _ (number : List Signed → Option ℕ) where
  same-members : (T T' : List Position) (S S' : List Signed) (A A' : List Atom) (R R' : List (List ℕ))
      (C C' : Cells) (f f' : Frame) → T ≡ T' → A ≡ A' → R ≡ R' → C ≡ C' → f ≡ f'
      → member_lines number T S A R C f ≡ member_lines number T' S' A' R' C' f'
  same-members T T' S S' A A' R R' C C' f f' t a r c e =
      λ i. member_lines number (t i) S (a i) (r i) (c i) (e i)

  -- over the frame of the rows of the automaton of its names
  module _ (T : List Position) (S : List Signed) (a : Automaton) (names : IsOfNames T S a) where
    rows-stated : rows_of a ≡ stated.rows_of (atoms_of_names T S)
    rows-stated =
        own_rows (atoms_of a) (rows_of a) a.found.1.0 a.found.1.1 ∙ ap stated.rows_of names.atoms

    cells-stated : cells_by T S a ≡ cells_at T S
    cells-stated = ap (cells characters far most_words T S) rows-stated

    pub members-are : (T' : List Position) (S' : List Signed) (C : Cells) (f : Frame) → T' ≡ T
        → C ≡ cells_by T S a → f ≡ object_frame T (cells_by T S a) S
        → member_lines number T' S' (atoms_of a) (rows_of a) C f ≡ object_lines number T S
    members-are T' S' C f t c e =
        same-members T' T S' S (atoms_of a) (atoms_of_names T S) (rows_of a) (stated.rows_of (atoms_of_names T S))
        C (cells_at T S) f (frame_at T S) t names.atoms rows-stated (c ∙ cells-stated)
        (e ∙ ap (λ D. object_frame T D S) cells-stated)

  -- a line, rows, bounds and plans
  pub members-added : (T T' : List Position) (S : List Signed) (A : List Atom) (R R' : List (List ℕ)) (C C' : Cells)
      (f : Frame) (cs : List ℕ) (x : Line) (l0 l1 l2 l3 l4 : List Line)
      → x ≡ L.Objects (length R) (length (capped f)) → T' ≡ T → R' ≡ R → C' ≡ C → cs ≡ capped f
      → l1 ≡ l0 ++ x ∷ [] → l2 ≡ l1 ++ row_lines A R → l3 ≡ l2 ++ map (cap_line T' C' R') cs
      → l4 ≡ l3 ++ plan_lines number OfObjects T f → l4 ≡ l0 ++ member_lines number T S A R C f
  members-added T T' S A R R' C C' f cs x l0 l1 l2 l3 l4 is t r c e a1 a2 a3 a4 =
      two-pieces l0 l1 l4 (L.Objects (length R) (length (capped f)) ∷ []) _
      (a1 ∙ ap (λ y. l0 ++ y ∷ []) is)
      (two-pieces l1 l2 l4 (row_lines A R) _ a2
      (two-pieces l2 l3 l4 (map (cap_line T C R) (capped f)) (plan_lines number OfObjects T f)
      (a3 ∙ (λ i. l2 ++ map (cap_line (t i) (c i) (r i)) (e i))) a4))
