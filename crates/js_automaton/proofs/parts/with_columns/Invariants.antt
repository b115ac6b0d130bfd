-- What was made ready so far are the patterns so far.
use Rattle.std.proofs.Common.{◌≡◌, map}
use Rattle.js_nfa.specs.View.{tree_of}
use Rattle.js_automaton.proofs.parts.with_columns.Given as goal

abbrev pub invariant-loop-nfa : goal.invariant-loop-nfa
invariant-loop-nfa l = map tree_of l.ready.items ≡ map tree_of l.yielded
