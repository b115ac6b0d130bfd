use Rattle.js_automaton.proofs.PieceLemmas.{ArePlacesSoFar}
use Rattle.js_automaton.proofs.pieces.places.Given as goal

abbrev pub invariant-loop-set : goal.invariant-loop-set
invariant-loop-set l = ArePlacesSoFar l.places.items l.sets l.letters l.set-index
