use Rattle.js_automaton.specs.Pieces.{AreRanges}
use Rattle.js_automaton.proofs.PieceSetLemmas.{HaveFirst}
use Rattle.js_automaton.proofs.class_set.ranges_of.Given as goal

abbrev pub invariant-loop-i : goal.invariant-loop-i
invariant-loop-i l =
    AreRanges l.ranges.items × HaveFirst l.starts l.numbers l.here l.ranges.items l.i
