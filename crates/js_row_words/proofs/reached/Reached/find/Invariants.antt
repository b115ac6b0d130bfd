use Rattle.std.proofs.Common.{◌-◌, length}
use Rattle.js_automaton.specs.AutomatonView.{atoms_of, rows_of}
use Rattle.js_row_words.proofs.ReachingLaws.{AreFound}
use Rattle.js_row_words.proofs.reached.Reached.find.Given as goal

abbrev pub invariant-loop-done : goal.invariant-loop-done
invariant-loop-done l = AreFound (atoms_of l.automaton) (rows_of l.automaton) l.marks
    l.reached.seen.items l.reached.list.items l.done

abbrev pub decreases-loop-done : goal.decreases-loop-done
decreases-loop-done l = length (rows_of l.automaton) - l.done
