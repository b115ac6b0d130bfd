-- The ends that were given, and those that are left, are all.
use Rattle.std.proofs.Common.{◌≡◌, ◌+◌, length}
use Rattle.frames.specs.Plan.{ends}
use Rattle.js_plans.specs.Walks.{IsWalk, left}
use Rattle.js_plans.proofs.alternative_list.see_all.Given as goal

abbrev pub invariant-loop-step : goal.invariant-loop-step
invariant-loop-step g l =
    let T = g.F.PlanFrame.table l.frame in
    let frame = g.F.PlanFrame.frame l.frame in
    record {
      walk : IsWalk T frame l.walk;
      ends : l.walk.ends + ends (left T frame l.walk) ≡ l.fn.walk.ends + ends (left T frame l.fn.walk);
    }

abbrev pub decreases-loop-step : goal.decreases-loop-step
decreases-loop-step g l = length (left (g.F.PlanFrame.table l.frame) (g.F.PlanFrame.frame l.frame) l.walk)
