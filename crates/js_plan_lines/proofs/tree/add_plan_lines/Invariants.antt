-- The lines so far, and those of the plans that are left.
use Rattle.std.proofs.Common.{◌≡◌, ◌++◌, [], length, map, reverse}
use Rattle.refutations.specs.PlanTreeLines.{plan_lines}
use Rattle.js_lines.specs.View.{line_view}
use Rattle.js_plans.specs.Servers.{cells_of}
use Rattle.js_plan_lines.specs.FormView.{form_view}
use Rattle.js_plan_lines.specs.Reach.{IsPath, AreExtents}
use Rattle.js_plan_lines.specs.Left.{lines_left, AreFine, AreClear}
use Rattle.js_plan_lines.proofs.tree.add_plan_lines.Given as goal

abbrev pub invariant-loop-next : goal.invariant-loop-next
invariant-loop-next g l =
    let number = g.D.Dead.number_of l.dead in
    let T = g.F.PlanFrame.table l.frame in
    let frame = g.F.PlanFrame.frame l.frame in
    record {
      path : IsPath frame l.path.items;
      extents : AreExtents [] l.path.items l.extents.items;
      members : l.members.items ≡ cells_of l.path.items;
      fine : AreFine frame l.path.items (reverse l.pending.items);
      clear : AreClear T frame l.path.items (reverse l.pending.items);
      lines : map line_view l.lines.items
          ++ lines_left number (form_view l.form) T frame l.path.items (reverse l.pending.items)
          ≡ map line_view l.fn.lines.items ++ plan_lines number (form_view l.form) T frame;
    }

abbrev pub decreases-loop-next : goal.decreases-loop-next
decreases-loop-next g l =
    length (lines_left (g.D.Dead.number_of l.dead) (form_view l.form) (g.F.PlanFrame.table l.frame)
    (g.F.PlanFrame.frame l.frame) l.path.items (reverse l.pending.items))
