-- The alternatives that were made, and those of the plans that are left, are all; so are the ends.
use Rattle.std.proofs.Common.{◌≡◌, ◌+◌, ◌++◌, map, length}
use Rattle.frames.specs.Plan.{complete, ends}
use Rattle.expansions.specs.Leaves.{plan_alternative}
use Rattle.js_algebra.specs.View.{kind_view}
use Rattle.js_expansion.specs.AlternativeView.{alternative_view}
use Rattle.js_plans.specs.Walks.{IsWalk, left}
use Rattle.js_plans.specs.Goals.{AreFillers}
use Rattle.js_plans.specs.Named.{naming_view}
use Rattle.js_plans.proofs.alternative_list.collect_few.Given as goal

abbrev pub invariant-loop-alternatives : goal.invariant-loop-alternatives
invariant-loop-alternatives g l =
    let T = g.F.PlanFrame.table l.frame in
    let frame = g.F.PlanFrame.frame l.frame in
    let make = plan_alternative (naming_view l.naming) (kind_view l.branch.kind) l.branch.number T frame in
    record {
      walk : IsWalk T frame l.walk;
      ends : l.walk.ends + ends (left T frame l.walk) ≡ l.fn.walk.ends + ends (left T frame l.fn.walk);
      fillers : AreFillers T frame l.filler_goals.items;
      made : map alternative_view l.alternatives.items ++ map make (complete (left T frame l.walk))
          ≡ map make (complete (left T frame l.fn.walk));
    }

abbrev pub decreases-loop-alternatives : goal.decreases-loop-alternatives
decreases-loop-alternatives g l = length (left (g.F.PlanFrame.table l.frame) (g.F.PlanFrame.frame l.frame) l.walk)
