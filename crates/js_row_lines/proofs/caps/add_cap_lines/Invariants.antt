-- The lines of the cells before.
use Rattle.std.proofs.Common.{◌≡◌, ◌++◌, map, take}
use Rattle.refutations.specs.ObjectLines.{cap_line}
use Rattle.js_automaton.specs.AutomatonView.{rows_of}
use Rattle.js_cells.specs.View.{cells_view}
use Rattle.js_lines.specs.View.{line_view}
use Rattle.js_row_lines.proofs.caps.add_cap_lines.Given as goal

abbrev pub invariant-loop-cell : goal.invariant-loop-cell
invariant-loop-cell l = map line_view l.lines.items
    ≡ map line_view l.fn.lines.items
    ++ map (cap_line l.cells.core.now.positions (cells_view l.cells) (rows_of l.cells.automaton.now))
    (take l.cell-index l.capped)
