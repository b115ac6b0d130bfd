use Rattle.std.proofs.Common.{map}
use Rattle.js_nfa.specs.AtomView.{atom_view}
use Rattle.js_said.proofs.Formulas.{by_name}
use Rattle.js_said.proofs.taken.said_by_name.Goals as goal

pub returns-clause-said : goal.returns-clause-said
returns-clause-said c =
    let (said, tells) = by_name c.args.core.now.positions (map atom_view c.args.atoms.now.keys)
    (map atom_view c.take_name.new.atoms.keys) c.new-numbers.result.items c.take_name.new.numbers.items
    c.new-numbers.ensures.items c.args.name.now c.in_ok-take_name.ensures in
    record { said = said; tells = tells }
