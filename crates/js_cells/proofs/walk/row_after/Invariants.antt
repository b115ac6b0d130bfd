-- The row of the characters so far.
use Rattle.std.proofs.Common.{◌≡◌, take}
use Rattle.word_states.specs.Rows.{row_of}
use Rattle.js_automaton.specs.AutomatonView.{atoms_of, rows_of}
use Rattle.js_cells.proofs.walk.row_after.Given as goal

abbrev pub invariant-loop-c : goal.invariant-loop-c
invariant-loop-c l = l.row ≡ row_of (atoms_of l.automaton) (rows_of l.automaton) (take l.c-index l.word)
