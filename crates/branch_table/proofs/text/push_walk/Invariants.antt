-- The branches that were counted, and those that are left, are no more than the most ends of a tree.
use Rattle.std.proofs.Common.{◌+◌, ◌≤◌, length}
use Rattle.js_tableau.specs.Branches.{most_ends}
use Rattle.js_tableau.specs.BranchWalks.{IsBranchWalk, branches_left}
use Rattle.branch_table.proofs.text.push_walk.Given as goal

abbrev pub invariant-loop-sets : goal.invariant-loop-sets
invariant-loop-sets l = record {
  walk : IsBranchWalk l.core.positions l.walk;
  few : l.count + length (branches_left l.core.positions l.walk) ≤ most_ends;
}

abbrev pub decreases-loop-sets : goal.decreases-loop-sets
decreases-loop-sets l = length (branches_left l.core.positions l.walk)
