-- Each slot is filled by the call at its place.
use Rattle.std.proofs.Common.{arith, subst}
use Rattle.js_par.specs.Answered.{Filled}
use Rattle.js_par.proofs.map.fill.Goals as goal

pub returns : goal.returns
returns g c = λ i d h.
    let k = (c.for_each_mut.ensures i d (omega arith)).1 in
    subst (Filled (g.T.Task.gives c.args.task.now) c.args.items.now i) k.left k.call
