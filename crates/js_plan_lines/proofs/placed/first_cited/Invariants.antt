-- What is left to look at.
use Rattle.std.proofs.Common.{◌≡◌, drop}
use Rattle.frames.specs.Plan.{placed}
use Rattle.js_plans.specs.Serving.{plan_after}
use Rattle.js_plan_lines.specs.Cited.{cited_from}
use Rattle.js_plan_lines.proofs.placed.first_cited.Given as goal

abbrev pub invariant-loop-number : goal.invariant-loop-number
invariant-loop-number g l =
    let number = g.D.Dead.number_of l.dead in
    let T = g.F.PlanFrame.table l.frame in
    let frame = g.F.PlanFrame.frame l.frame in
    cited_from number T frame l.number (drop l.number (placed frame (plan_after frame l.path)))
    ≡ cited_from number T frame 0 (placed frame (plan_after frame l.path))
