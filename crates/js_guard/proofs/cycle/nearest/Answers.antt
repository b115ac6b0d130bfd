-- The best of all is the nearest, and there is one.
use Rattle.std.proofs.Common.{arith, subst}
use Rattle.js_guard.specs.Nearest.{IsBest}
use Rattle.js_guard.proofs.NearestLemmas.{best-some, best-nearest}
use Rattle.js_guard.proofs.cycle.nearest.Goals as goal

pub unreachable-requires : goal.unreachable-requires
unreachable-requires c =
    let row = c.args.row.now in
    let D = c.args.distances.now in
    let (z, d, among, known) = c.requires.some in
    best-some D row c.loop-target.target-index z d (omega arith)
    (subst (IsBest D row c.loop-target.target-index) c.in-None.is c.loop-target.invariant) among known

pub returns : goal.returns
returns c =
    let row = c.args.row.now in
    let D = c.args.distances.now in
    best-nearest D row c.loop-target.target-index c.in-Some-best.candidate (omega arith) (omega arith)
    (subst (IsBest D row c.loop-target.target-index) c.in-Some-best.is c.loop-target.invariant)
