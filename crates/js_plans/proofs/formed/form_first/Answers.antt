-- One more goal.
use Rattle.std.proofs.Common.{◌≡◌, [], Some, arith, sym, ◌∙◌, subst}
use Rattle.frames.specs.Frame.{Head}
use Rattle.frames.specs.Plan.{goal_of}
use Rattle.js_plans.specs.Goals.{AreFirst}
use Rattle.js_plans.proofs.Forming.{first-push}
use Rattle.js_plans.proofs.formed.form_first.Goals as goal

pub loop-k-preserved : goal.loop-k-preserved
loop-k-preserved g c =
    let T = g.F.PlanFrame.table c.args.frame.now in
    let frame = g.F.PlanFrame.frame c.args.frame.now in
    record {
      first = subst (λ gs. AreFirst T frame 0 gs) (sym c.in_ok-push-in-Some.ensures.items)
          (first-push T frame 0 c.loop-k.first.items c.in-Some.goal c.loop-k.invariant.first
          (subst (λ n. goal_of T frame (Head n, []) ≡ Some c.in-Some.goal) (omega (arith, c.loop-k.invariant.count))
          (sym c.in_ok-goal.ensures ∙ c.in-Some.is)));
      count = omega (arith, c.in_ok-push-in-Some.ensures.len, c.loop-k.invariant.count);
    }
