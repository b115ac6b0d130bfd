use Rattle.js_said.proofs.Taking.{taken_one}
use Rattle.js_said.proofs.numbers.take_atom.Goals as goal

pub returns-clause-taken : goal.returns-clause-taken
returns-clause-taken c = taken_one c.args.atoms.now.keys c.insert_full.new.self.keys c.args.numbers.now.items
    c.push.new.self.items c.args.atom c.in_ok-number.number c.in_ok-number.ensures.keys c.in_ok-push.ensures.items
    c.in_ok-number.ensures.stored
