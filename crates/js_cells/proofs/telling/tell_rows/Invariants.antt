-- The truths of the literals before are set.
use Rattle.js_automaton.specs.AutomatonView.{atoms_of, rows_of}
use Rattle.js_said.specs.Saying.{tells}
use Rattle.js_cells.proofs.ToldLaws.{AreTold}
use Rattle.js_cells.proofs.telling.tell_rows.Given as goal

abbrev pub invariant-loop-place : goal.invariant-loop-place
invariant-loop-place l =
    AreTold (tells l.core.positions (atoms_of l.automaton)) l.said (rows_of l.automaton) l.place l.told.items
