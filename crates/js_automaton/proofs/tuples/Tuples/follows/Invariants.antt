use Rattle.std.proofs.Common.{◌≡◌, length}
use Rattle.js_automaton.specs.Follows.{AreFollowsTo}
use Rattle.js_automaton.proofs.tuples.Tuples.follows.Given as goal

abbrev pub invariant-loop-i : goal.invariant-loop-i
invariant-loop-i l =
    (length l.follows.items ≡ l.i) × AreFollowsTo l.self.patterns.items l.state.patterns.items l.follows.items l.i
