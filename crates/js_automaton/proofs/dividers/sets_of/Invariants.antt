use Rattle.std.proofs.Common.{◌≡◌, ℕ, ◌&&◌, map, flat_map, drop}
use Rattle.word_states.specs.Classes.{are_alike}
use Rattle.js_nfa.specs.AtomView.{atom_view}
use Rattle.js_automaton.specs.Letters.{tree_sets}
use Rattle.js_automaton.proofs.dividers.sets_of.Given as goal

abbrev pub invariant-loop-atom : goal.invariant-loop-atom
invariant-loop-atom l = (c d : ℕ)
    → (are_alike l.sets.items c d && are_alike (flat_map tree_sets (map atom_view (drop l.atom-index l.atoms))) c d)
    ≡ are_alike (flat_map tree_sets (map atom_view l.atoms)) c d
