-- All that can be reached is.
use Rattle.std.proofs.Common.{subst, arith}
use Rattle.js_guard.specs.Distances.{AreDistances}
use Rattle.js_guard.proofs.Reaching.{all-reached}
use Rattle.js_guard.proofs.distances.distances_from.Goals as goal

pub returns : goal.returns
returns c =
    let s = c.loop-at.frontier in
    let kept = c.loop-at.invariant in
    subst (λ f. AreDistances c.args.edges.now f s.distances.items) kept.first
    (all-reached c.args.edges.now s.distances.items s.queue.items c.loop-at.at kept.search (omega arith))
