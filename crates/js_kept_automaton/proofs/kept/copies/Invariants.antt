-- The copies so far, and the atoms that are left.
use Rattle.std.proofs.Common.{◌≡◌, ◌++◌, map, drop}
use Rattle.js_nfa.specs.AtomView.{atom_view}
use Rattle.js_kept_automaton.proofs.kept.copies.Given as goal

abbrev pub invariant-loop-atom : goal.invariant-loop-atom
invariant-loop-atom l =
    map atom_view l.copies.items ++ map atom_view (drop l.atom-index l.atoms) ≡ map atom_view l.atoms
