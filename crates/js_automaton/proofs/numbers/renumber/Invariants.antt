use Rattle.js_automaton.proofs.NumberLemmas.{AreKeyed}
use Rattle.js_automaton.proofs.numbers.renumber.Given as goal

abbrev pub invariant-loop-i : goal.invariant-loop-i
invariant-loop-i l = AreKeyed l.old l.sides l.keys.keys l.new.items l.i
