use Rattle.js_automaton.specs.Pieces.{AreKept}
use Rattle.js_automaton.proofs.PieceLemmas.{RestSays}
use Rattle.js_automaton.proofs.pieces.add_ends.Given as goal

abbrev pub invariant-loop-range : goal.invariant-loop-range
invariant-loop-range l =
    AreKept l.fn.places.items l.places.items × RestSays l.places.items l.range-items l.range-index
