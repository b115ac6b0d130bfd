use Rattle.std.proofs.Common.{◌≡◌, ◌+◌, ◌≤◌, min, map, drop}
use Rattle.js_nfa.specs.AtomView.{atom_view}
use Rattle.word_states.specs.AtomPositions.{positions_of}
use Rattle.js_automaton.proofs.gather.count_all.Given as goal

abbrev pub invariant-loop-atom : goal.invariant-loop-atom
invariant-loop-atom l = record {
  within : l.count ≤ 16385;
  count : min (l.count + positions_of (map atom_view (drop l.atom-index l.atoms))) 16385
      ≡ min (positions_of (map atom_view l.atoms)) 16385;
}
