-- The ends that were given, and those that are left, are all.
use Rattle.std.proofs.Common.{◌≡◌, ◌+◌, length}
use Rattle.goals.specs.Tree.{ends}
use Rattle.js_algebra.specs.View.{kind_view}
use Rattle.js_tableau.specs.Progress.{IsTree, left}
use Rattle.js_tableau.proofs.branch_walk.see_all.Given as goal

abbrev pub invariant-loop-step : goal.invariant-loop-step
invariant-loop-step l = record {
  tree : IsTree l.core.positions (kind_view l.kind) l.tree;
  ends : l.tree.ends + ends (left l.core.positions (kind_view l.kind) l.tree)
      ≡ l.fn.tree.ends + ends (left l.core.positions (kind_view l.kind) l.fn.tree);
}

abbrev pub decreases-loop-step : goal.decreases-loop-step
decreases-loop-step l = length (left l.core.positions (kind_view l.kind) l.tree)
