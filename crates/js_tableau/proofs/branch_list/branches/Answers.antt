-- There are no more branches than ends.
use Rattle.std.proofs.Common.{length, arith, ap, length-append}
use Rattle.std.proofs.Math.ListN.{length-map}
use Rattle.goals.specs.Tree.{steps}
use Rattle.js_algebra.specs.View.{kind_view}
use Rattle.js_tableau.specs.Branches.{sets_of}
use Rattle.js_tableau.specs.BranchWalks.{branches_left}
use Rattle.js_tableau.proofs.Branching.{branches_few}
use Rattle.js_tableau.proofs.branch_list.branches.Goals as goal

pub add_branch-requires : goal.add_branch-requires
add_branch-requires c =
    let P = c.args.core.now.positions in
    let found = c.loop-found.found.items in
    omega (
      arith,
      branches_few (steps P (kind_view c.args.kind) c.args.goal.now),
      c.in_ok-walk.ensures.few,
      ap length c.loop-found.invariant.left,
      length-append (sets_of found) (branches_left P c.loop-found.walk),
      length-map found (λ b. b.set),
    )
