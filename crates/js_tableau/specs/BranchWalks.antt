-- The branches that a walk has still to give.
use Rattle.std.specs.Prelude.{◌+◌, ◌≤◌, List}
use Rattle.positions.specs.Position.{Position}
use Rattle.goals.specs.Signed.{Signed}
use Rattle.goals.specs.Tree.{ends, branches}
use Rattle.js_algebra.specs.View.{kind_view}
use Rattle.js_tableau.specs.Branches.{most_ends}
use Rattle.js_tableau.specs.Progress.{left, IsTree}
use Rattle.js_tableau.specs.declared.branch_walk.BranchWalk.{BranchWalk}

-- in the order of the tree
abbrev pub branches_left : List Position → BranchWalk → List (List Signed)
branches_left P w = branches (left P (kind_view w.kind) w.tree)

-- a walk over a table, through a tree that is within the limit
pub record IsBranchWalk (P : List Position) (w : BranchWalk) : Type 0 where
  pub tree : IsTree P (kind_view w.kind) w.tree
  pub few : w.tree.ends + ends (left P (kind_view w.kind) w.tree) ≤ most_ends
