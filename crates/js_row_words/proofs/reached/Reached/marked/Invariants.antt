use Rattle.std.proofs.Common.{◌-◌}
use Rattle.js_automaton.specs.AutomatonView.{atoms_of, rows_of}
use Rattle.js_row_words.proofs.ReachingLaws.{AreMarked}
use Rattle.js_row_words.proofs.reached.Reached.marked.Given as goal

abbrev pub invariant-loop-row : goal.invariant-loop-row
invariant-loop-row l = AreMarked (atoms_of l.automaton) (rows_of l.automaton) l.marks
    l.reached.seen.items l.reached.list.items (l.rows - l.row)
