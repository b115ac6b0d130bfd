-- The rows before were tested.
use Rattle.std.proofs.Common.{◌≡◌, [], filter, get_or}
use Rattle.std.specs.List.{range_with_len}
use Rattle.js_automaton.specs.AutomatonView.{atoms_of, rows_of}
use Rattle.js_said.specs.AtomNumbers.{is_true_at}
use Rattle.js_cells.proofs.truths.rows_where.Given as goal

abbrev pub invariant-loop-row : goal.invariant-loop-row
invariant-loop-row l =
    l.rows.items ≡ filter (λ r. is_true_at (atoms_of l.automaton) (get_or (rows_of l.automaton) r []) l.atom)
    (range_with_len 0 l.row)
