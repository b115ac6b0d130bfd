use Rattle.std.proofs.Common.{◌≡◌, true, map, take, length}
use Rattle.js_nfa.specs.AtomView.{atom_view}
use Rattle.js_automaton.specs.Parts.{are_placed, atoms_made}
use Rattle.js_automaton.proofs.parts.parts_of.Given as goal

abbrev pub invariant-loop-atom : goal.invariant-loop-atom
invariant-loop-atom l =
    (are_placed 0 l.parts.items (length l.patterns.items) ≡ true)
    × (atoms_made l.patterns.items l.parts.items ≡ map atom_view (take l.atom-index l.atoms))
