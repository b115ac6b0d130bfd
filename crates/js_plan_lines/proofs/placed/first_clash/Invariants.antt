-- What is left to look at.
use Rattle.std.proofs.Common.{◌≡◌, ◌-◌, drop}
use Rattle.frames.specs.Plan.{placed, clash_from, first_clash}
use Rattle.js_plans.specs.Serving.{plan_after}
use Rattle.js_plan_lines.proofs.placed.first_clash.Given as goal

abbrev pub invariant-loop-number : goal.invariant-loop-number
invariant-loop-number g l =
    let T = g.F.PlanFrame.table l.frame in
    let frame = g.F.PlanFrame.frame l.frame in
    clash_from T frame l.number (drop l.number (placed frame (plan_after frame l.path)))
    ≡ first_clash T frame (plan_after frame l.path)

abbrev pub decreases-loop-number : goal.decreases-loop-number
decreases-loop-number g l = l.placed.count - l.number
