-- No row before is of the cell.
use Rattle.std.proofs.Common.{◌≡◌, ℕ, ◌<◌, [], get_or}
use Rattle.cells.specs.Cells.{cell_of}
use Rattle.js_automaton.specs.AutomatonView.{rows_of}
use Rattle.js_cells.specs.View.{cells_view}
use Rattle.js_cells.proofs.name_cells.Cells.first_row.Given as goal

abbrev pub invariant-loop-row : goal.invariant-loop-row
invariant-loop-row l =
    (r : ℕ) → r < l.row
    → cell_of l.self.core.now.positions (cells_view l.self) (get_or (rows_of l.self.automaton.now) r []) ≡ l.cell → ⊥
