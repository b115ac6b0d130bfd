use Rattle.js_automaton.specs.AutomatonView.{atoms_of, rows_of}
use Rattle.js_row_words.proofs.EndlessLaws.{AreDropped}
use Rattle.js_row_words.proofs.endless.drop_ends.Given as goal

abbrev pub invariant-loop-i : goal.invariant-loop-i
invariant-loop-i l =
    AreDropped (atoms_of l.automaton) (rows_of l.automaton) l.list l.initial.left l.left l.fell l.i
