-- Where labels are enough for the marked rows, they keep the rule of a bound of the cell.
use Rattle.std.proofs.Common.{◌≡◌, ℕ, List, map, Bool, nat_eq, ap, ◌∙◌}
use Rattle.word_states.specs.Atom.{Atom}
use Rattle.positions.specs.Position.{Position}
use Rattle.goals.specs.Signed.{Signed}
use Rattle.cells.specs.Cells.{naming}
use Rattle.finders.specs.Names.{atoms_of_names}
use Rattle.verdicts.specs.RowLines.{Table, stated}
use Rattle.verdicts.specs.Bounds.{is_right}
use Rattle.verdicts.specs.Leaves.{table_cells}
use Rattle.js_check_rows.specs.Labels.{are_kept, AreBounds}
use Rattle.js_said.specs.Vectors.{row_places}
use Rattle.js_said.proofs.RowVectors.{mark_at}

-- labels are enough for the marked rows exactly where they are a right bound of the cell
pub kept_right : (T : List Position) (S : List Signed) (atoms : List Atom) (t : Table (List ℕ)) (places : List ℕ)
    (marks seen : List Bool) (labels : List ℕ) (cell : ℕ) → AreBounds atoms t seen labels
    → atoms ≡ atoms_of_names T S → places ≡ row_places T S t.words → seen ≡ marks
    → marks ≡ map (λ k. nat_eq k cell) places
    → are_kept atoms t seen labels
    ≡ is_right T (atoms_of_names T S) t.words (stated t) (table_cells T S t) (cell, labels)
kept_right T S atoms t places marks seen labels cell bounds same placed e marked =
    bounds T (table_cells T S t) cell
    (λ r l. mark_at T (naming T S) t.words places placed cell seen (e ∙ marked) r l)
    ∙ ap (λ A. is_right T A t.words (stated t) (table_cells T S t) (cell, labels)) same
