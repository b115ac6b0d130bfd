-- The targets by the classes before.
use Rattle.std.proofs.Common.{◌≡◌, [], take, get_or}
use Rattle.word_states.specs.Rows.{targets_of}
use Rattle.js_automaton.specs.AutomatonView.{atoms_of, rows_of}
use Rattle.js_row_lines.proofs.rows.targets.Given as goal

abbrev pub invariant-loop-class : goal.invariant-loop-class
invariant-loop-class l = l.targets.items ≡ take l.class
    (targets_of (atoms_of l.automaton) (rows_of l.automaton) (get_or (rows_of l.automaton) l.row []))
