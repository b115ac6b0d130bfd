-- The goals up to here.
use Rattle.std.proofs.Common.{◌≡◌, length}
use Rattle.js_plans.specs.Goals.{AreFirst}
use Rattle.js_plans.proofs.formed.form_first.Given as goal

abbrev pub invariant-loop-k : goal.invariant-loop-k
invariant-loop-k g l = record {
  first : AreFirst (g.F.PlanFrame.table l.frame) (g.F.PlanFrame.frame l.frame) 0 l.first.items;
  count : length l.first.items ≡ l.k;
}
