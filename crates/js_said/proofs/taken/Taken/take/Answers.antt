use Rattle.std.proofs.Common.{map}
use Rattle.js_nfa.specs.AtomView.{atom_view}
use Rattle.js_said.proofs.Literals.{taken_pushed}
use Rattle.js_said.proofs.taken.Taken.take.Goals as goal

pub returns-in_ok-push-in-Some-2 : goal.returns-in_ok-push-in-Some-2
returns-in_ok-push-in-Some-2 c = λ xs taken.
    taken_pushed c.args.core.now.positions xs c.args.x (map atom_view c.args.self.now.atoms.keys)
    (map atom_view c.said_at.new.atoms.keys) c.args.self.now.names.items c.push.new.self.items
    c.args.self.now.said.items c.push-in-Some.new.self.items c.in-Some.said c.in_ok-said.field-0 c.in-Some.is
    c.in_ok-said.ensures.atoms c.in_ok-said.ensures.said c.in_ok-push-in-Some.ensures.items
    c.in_ok-push-in-Some-2.ensures.items taken
