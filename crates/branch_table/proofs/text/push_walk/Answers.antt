-- There are no more branches than ends.
use Rattle.std.proofs.Common.{arith}
use Rattle.js_algebra.specs.View.{kind_view}
use Rattle.js_tableau.specs.Progress.{left}
use Rattle.js_tableau.proofs.Branching.{branches_few}
use Rattle.branch_table.proofs.text.push_walk.Goals as goal

pub loop-sets-init : goal.loop-sets-init
loop-sets-init c =
    let walk = c.args.walk.now in
    record {
      walk = c.requires;
      few = omega (
        arith,
        branches_few (left c.args.core.now.positions (kind_view walk.kind) walk.tree),
        c.requires.few,
      );
    }
