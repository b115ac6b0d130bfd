-- The lengths of the words of the rows before.
use Rattle.js_automaton.specs.AutomatonView.{rows_of}
use Rattle.js_row_lines.proofs.RowLengths.{AreLengths}
use Rattle.js_row_lines.proofs.least.lengths.Given as goal

abbrev pub invariant-loop-row : goal.invariant-loop-row
invariant-loop-row l = AreLengths (rows_of l.automaton) l.lengths.items l.row
