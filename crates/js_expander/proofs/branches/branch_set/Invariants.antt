-- What is left are the branches from the next one on.
use Rattle.std.proofs.Common.{◌≡◌, ◌+◌, ℕ, [], get_or}
use Rattle.goals.specs.Tree.{steps, branches}
use Rattle.js_algebra.specs.View.{kind_view}
use Rattle.js_tableau.specs.BranchWalks.{IsBranchWalk, branches_left}
use Rattle.js_expander.proofs.branches.branch_set.Given as goal

abbrev pub invariant-loop : goal.invariant-loop
invariant-loop l =
    let T = l.core.positions in
    record {
      walk : IsBranchWalk T l.walk;
      left : (k : ℕ) → get_or (branches_left T l.walk) k []
          ≡ get_or (branches (steps T (kind_view l.fn.branch.kind) l.goal)) (l.counter + k) [];
    }
