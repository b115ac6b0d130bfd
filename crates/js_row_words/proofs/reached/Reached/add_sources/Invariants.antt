use Rattle.js_automaton.specs.AutomatonView.{atoms_of, rows_of}
use Rattle.js_row_words.proofs.ReachingLaws.{AreAdded}
use Rattle.js_row_words.proofs.reached.Reached.add_sources.Given as goal

abbrev pub invariant-loop-edge : goal.invariant-loop-edge
invariant-loop-edge l =
    AreAdded (atoms_of l.automaton) (rows_of l.automaton) l.row l.initial.self.seen.items l.initial.self.list.items
    l.self.seen.items l.self.list.items l.edge

abbrev pub decreases-loop-edge : goal.decreases-loop-edge
decreases-loop-edge l = l.edge
