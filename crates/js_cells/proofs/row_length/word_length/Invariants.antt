-- The rows before were gone through.
use Rattle.js_automaton.specs.AutomatonView.{atoms_of, rows_of}
use Rattle.js_cells.proofs.Levels.{IsLevel}
use Rattle.js_cells.proofs.row_length.word_length.Given as goal

abbrev pub invariant-loop-before : goal.invariant-loop-before
invariant-loop-before l =
    IsLevel (atoms_of l.automaton) (rows_of l.automaton) l.before l.letters l.end l.named
