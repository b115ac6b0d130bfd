-- The goals are those of the cells so far.
use Rattle.std.proofs.Common.{◌≡◌, length}
use Rattle.js_plans.specs.Goals.{AreFillers}
use Rattle.js_plans.proofs.formed.form_fillers.Given as goal

abbrev pub invariant-loop-k : goal.invariant-loop-k
invariant-loop-k g l =
    let frame = g.F.PlanFrame.frame l.frame in
    let T = g.F.PlanFrame.table l.frame in
    record {
      count : l.k ≡ length l.goals.items;
      goals : AreFillers T frame l.goals.items;
    }
