-- The lines of the rows before.
use Rattle.std.proofs.Common.{◌≡◌, ◌++◌, map, take}
use Rattle.word_states.specs.Rows.{targets_of}
use Rattle.certificate_lines.specs.Line as L
use Rattle.js_automaton.specs.AutomatonView.{atoms_of, rows_of}
use Rattle.js_lines.specs.View.{line_view}
use Rattle.js_row_lines.proofs.rows.add_row_lines.Given as goal

abbrev pub invariant-loop-row : goal.invariant-loop-row
invariant-loop-row l = map line_view l.lines.items
    ≡ map line_view l.fn.lines.items
    ++ map (λ w. L.Row (targets_of (atoms_of l.automaton) (rows_of l.automaton) w)) (take l.row (rows_of l.automaton))
