use Rattle.std.proofs.Common.{◌∙◌, ◌+◌, ◌&&◌, map, flat_map, drop, sym, ap}
use Rattle.word_states.specs.Classes.{are_alike}
use Rattle.js_nfa.specs.AtomView.{atom_view}
use Rattle.js_automaton.specs.Letters.{tree_sets}
use Rattle.js_automaton.proofs.DividerLemmas.{trees-drop, alike-added}
use Rattle.js_automaton.proofs.dividers.sets_of.Goals as goal

pub loop-atom-preserved : goal.loop-atom-preserved
loop-atom-preserved c = λ x y.
    alike-added c.loop-atom.sets.items c.add_atom.new.sets.items (tree_sets (atom_view c.atom-item.result))
    (flat_map tree_sets (map atom_view (drop (c.loop-atom.atom-index + 1) c.args.atoms.now))) x y
    (c.in_ok-add_atom.ensures x y)
    ∙ sym (ap (λ ss. are_alike c.loop-atom.sets.items x y && are_alike ss x y)
    (trees-drop c.args.atoms.now c.loop-atom.atom-index c.atom-item.result c.loop-atom-test.true c.atom-item.is))
    ∙ c.loop-atom.invariant x y
