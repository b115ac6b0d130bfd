use Rattle.std.proofs.Common.{map}
use Rattle.js_nfa.specs.AtomView.{atom_view}
use Rattle.js_said.proofs.Formulas.{by_any, by_none}
use Rattle.js_said.proofs.taken.said_by_set.Goals as goal

pub returns-in-Others-clause-said : goal.returns-in-Others-clause-said
returns-in-Others-clause-said c =
    let (said, tells) = by_none c.args.core.now.positions (map atom_view c.args.atoms.now.keys)
    (map atom_view c.take_set.new.atoms.keys) c.new-numbers.result.items c.take_set.new.numbers.items
    c.new-numbers.ensures.items c.args.set.now c.in-Others.field-0 c.in-Others.field-1 c.in-Others.is
    c.in_ok-take_set.ensures in
    record { said = said; tells = tells }

pub returns-in-Named-clause-said : goal.returns-in-Named-clause-said
returns-in-Named-clause-said c =
    let (said, tells) = by_any c.args.core.now.positions (map atom_view c.args.atoms.now.keys)
    (map atom_view c.take_set.new.atoms.keys) c.new-numbers.result.items c.take_set.new.numbers.items
    c.new-numbers.ensures.items c.args.set.now c.in-Named.is c.in_ok-take_set.ensures in
    record { said = said; tells = tells }
