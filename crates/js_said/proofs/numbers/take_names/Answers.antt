use Rattle.std.proofs.Common.{◌<◌, [], ◌∷◌, map, length, arith}
use Rattle.word_states.specs.Atom as W
use Rattle.js_nfa.specs.AtomView.{atom_view}
use Rattle.js_said.proofs.Taking.{takes_next}
use Rattle.js_said.proofs.numbers.take_names.Goals as goal

pub loop-name-preserved : goal.loop-name-preserved
loop-name-preserved c =
    let within : c.loop-name.name-index < length c.args.names.now = omega arith in
    takes_next (λ n. W.Words (n ∷ [])) (map atom_view c.args.atoms.now.keys) (map atom_view c.loop-name.atoms.keys)
    (map atom_view c.take_name.new.atoms.keys) c.args.numbers.now.items c.loop-name.numbers.items
    c.take_name.new.numbers.items c.args.names.now c.loop-name.name-index c.name-item.result within c.name-item.is
    c.loop-name.invariant c.in_ok-take_name.ensures
