use Rattle.js_automaton.proofs.NumberLemmas.{RestNumbers}
use Rattle.js_automaton.proofs.numbers.numbers.Given as goal

abbrev pub invariant-loop-set : goal.invariant-loop-set
invariant-loop-set l = RestNumbers l.starts l.numbers.items l.sets l.letters l.set-index
