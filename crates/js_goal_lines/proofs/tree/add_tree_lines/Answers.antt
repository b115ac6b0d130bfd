-- One more step.
use Rattle.std.proofs.Common.{◌++◌, map}
use Rattle.refutations.specs.TreeLines.{tree_lines}
use Rattle.refutations.specs.GoalLines.{leaf_lines}
use Rattle.js_algebra.specs.View.{kind_view}
use Rattle.js_lines.specs.View.{line_view}
use Rattle.js_tableau.specs.Progress.{left}
use Rattle.js_goal_lines.proofs.Walking.{step-more}
use Rattle.js_goal_lines.proofs.tree.add_tree_lines.Goals as goal

pub loop-kept-preserved : goal.loop-kept-preserved
loop-kept-preserved g c =
    let T = c.args.core.now.positions in
    let t = kind_view c.args.kind in
    let leaf = leaf_lines (g.D.Dead.number_of c.args.dead.now) T t in
    record {
      tree = c.in_ok-step.ensures.tree;
      lines = step-more T t leaf c.loop-kept.tree c.next_step.new.tree c.in_ok-step.field-0
          c.in_ok-step.ensures.step c.in-Some.step c.in-Some.is (map line_view c.loop-kept.lines.items)
          (map line_view c.add_step_lines.new.lines.items)
          (map line_view c.args.lines.now.items ++ tree_lines leaf (left T t c.args.tree))
          c.in_ok-add_step_lines.ensures c.loop-kept.invariant.lines;
    }
