-- There are no more branches than ends.
use Rattle.std.proofs.Common.{length, arith, ap}
use Rattle.goals.specs.Tree.{steps}
use Rattle.js_algebra.specs.View.{kind_view}
use Rattle.js_tableau.proofs.Branching.{branches_few}
use Rattle.js_expander.proofs.branches.keep_kind.Goals as goal

pub keep_branches-requires-clause-few : goal.keep_branches-requires-clause-few
keep_branches-requires-clause-few c =
    omega (
      arith,
      branches_few (steps c.args.core.now.positions (kind_view c.args.kind) c.args.goal.now),
      c.in-Ok.ensures.few,
      ap length c.in-Ok.ensures.left,
    )
