use Rattle.std.proofs.Common.{[]}
use Rattle.js_automaton.proofs.TupleLemmas.{AreStates}
use Rattle.js_automaton.proofs.tuples.Tuples.start.Given as goal

abbrev pub invariant-loop-nfa : goal.invariant-loop-nfa
invariant-loop-nfa l = AreStates l.nfa-items l.patterns.items [] l.nfa-index
