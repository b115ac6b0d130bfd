use Rattle.std.proofs.Common.{arith}
use Rattle.js_automaton.proofs.TupleLemmas.{positions-one}
use Rattle.js_automaton.proofs.parts.parts_of.Goals as goal

pub returns-in-Err-clause-limit : goal.returns-in-Err-clause-limit
returns-in-Err-clause-limit c = λ e.
    let less = positions-one c.args.atoms.now c.loop-atom.atom-index c.atom-item.result c.loop-atom-test.true
    c.atom-item.is in
    omega (arith, less, c.in-Err.ensures.limit e)
