-- The walk goes on to the branch of that number.
use Rattle.std.proofs.Common.{◌≡◌, arith}
use Rattle.goals.specs.Tree.{steps, branches}
use Rattle.js_algebra.specs.View.{kind_view}
use Rattle.js_tableau.specs.BranchWalks.{branches_left}
use Rattle.js_expander.proofs.Walked.{left-next, left-at}
use Rattle.js_expander.proofs.branches.branch_set.Goals as goal

pub loop-preserved : goal.loop-preserved
loop-preserved c =
    let T = c.args.core.now.positions in
    record {
      walk = c.in_ok-_earlier.ensures.walk;
      left = left-next (branches (steps T (kind_view c.args.branch.kind) c.args.goal.now)) (branches_left T c.loop.walk)
          (branches_left T c.next.new.self) c.loop.counter c.in_ok-_earlier._earlier c.loop.invariant.left
          c.in_ok-_earlier.ensures.next c.in_ok-_earlier.ensures.end;
    }

pub returns-in-Some-clause-set : goal.returns-in-Some-clause-set
returns-in-Some-clause-set c =
    let T = c.args.core.now.positions in
    let all : c.loop.counter ≡ c.args.branch.number = omega (arith, c.loop-test.false, c.loop.auto.counter-end) in
    left-at (branches (steps T (kind_view c.args.branch.kind) c.args.goal.now)) (branches_left T c.loop.walk)
    (branches_left T c.next-2.new.self) c.loop.counter c.args.branch.number _ c.in-Some.set c.in-Some.is all
    c.loop.invariant.left c.in_ok-set.ensures.next
