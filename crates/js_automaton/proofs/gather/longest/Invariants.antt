use Rattle.std.proofs.Common.{◌≡◌, max, map, drop}
use Rattle.word_states.specs.WordState.{greatest_least}
use Rattle.js_nfa.specs.AtomView.{atom_view}
use Rattle.js_automaton.proofs.gather.longest.Given as goal

abbrev pub invariant-loop-atom : goal.invariant-loop-atom
invariant-loop-atom l =
    max l.longest (greatest_least (map atom_view (drop l.atom-index l.atoms))) ≡ greatest_least (map atom_view l.atoms)
