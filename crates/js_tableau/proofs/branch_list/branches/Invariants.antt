-- The branches that were found, and those that are left, are the branches of the tree.
use Rattle.std.proofs.Common.{◌≡◌, ◌++◌, length, true}
use Rattle.documents.specs.Tests.{every}
use Rattle.goals.specs.Tree.{steps, branches}
use Rattle.js_algebra.specs.View.{kind_view, are_in_table}
use Rattle.js_tableau.specs.Branches.{sets_of, AreNumbered}
use Rattle.js_tableau.specs.BranchWalks.{IsBranchWalk, branches_left}
use Rattle.js_tableau.proofs.branch_list.branches.Given as goal

abbrev pub invariant-loop-found : goal.invariant-loop-found
invariant-loop-found l = record {
  walk : IsBranchWalk l.core.positions l.walk;
  left : sets_of l.found.items ++ branches_left l.core.positions l.walk
      ≡ branches (steps l.core.positions (kind_view l.kind) l.goal);
  numbered : AreNumbered l.kind 0 l.found.items;
  in_table : every (are_in_table l.core.positions) (sets_of l.found.items) ≡ true;
}

abbrev pub decreases-loop-found : goal.decreases-loop-found
decreases-loop-found l = length (branches_left l.core.positions l.walk)
