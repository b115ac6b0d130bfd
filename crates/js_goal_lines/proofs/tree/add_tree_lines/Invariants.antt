-- The lines so far, and those of the steps that are left.
use Rattle.std.proofs.Common.{◌≡◌, ◌++◌, map, length}
use Rattle.refutations.specs.TreeLines.{tree_lines}
use Rattle.refutations.specs.GoalLines.{leaf_lines}
use Rattle.js_algebra.specs.View.{kind_view}
use Rattle.js_lines.specs.View.{line_view}
use Rattle.js_tableau.specs.Progress.{IsTree, left}
use Rattle.js_goal_lines.proofs.tree.add_tree_lines.Given as goal

abbrev pub invariant-loop-kept : goal.invariant-loop-kept
invariant-loop-kept g l =
    let T = l.core.positions in
    let t = kind_view l.kind in
    let leaf = leaf_lines (g.D.Dead.number_of l.dead) T t in
    record {
      tree : IsTree T t l.tree;
      lines : map line_view l.lines.items ++ tree_lines leaf (left T t l.tree)
          ≡ map line_view l.fn.lines.items ++ tree_lines leaf (left T t l.fn.tree);
    }

abbrev pub decreases-loop-kept : goal.decreases-loop-kept
decreases-loop-kept g l = length (left l.core.positions (kind_view l.kind) l.tree)
