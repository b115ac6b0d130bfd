-- The classes before were looked at.
use Rattle.js_automaton.specs.AutomatonView.{atoms_of, rows_of}
use Rattle.js_cells.specs.Lengths.{IsNamed}
use Rattle.js_cells.proofs.row_length.named_by.Given as goal

abbrev pub invariant-loop-class : goal.invariant-loop-class
invariant-loop-class l = IsNamed (atoms_of l.automaton) (rows_of l.automaton) l.row l.class l.named l.next
