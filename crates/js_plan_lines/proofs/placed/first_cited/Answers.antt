-- One more is looked at.
use Rattle.std.proofs.Common.{◌<◌, ◌+◌, suc, length, Some, None, refl, arith, ap, sym, ◌∙◌}
use Rattle.frames.specs.Plan.{placed, goal_of}
use Rattle.js_plans.specs.Serving.{plan_after}
use Rattle.js_plan_lines.specs.Reach.{seen}
use Rattle.js_plan_lines.proofs.Firsts.{cited-next}
use Rattle.js_plan_lines.proofs.placed.first_cited.Goals as goal
use Rattle.list_laws.proofs.Options.{none_is}

pub returns-in-Some : goal.returns-in-Some
returns-in-Some g c =
    let frame = g.F.PlanFrame.frame c.args.frame.now in
    let k = c.loop-number.number in
    let less : k < length (placed frame (plan_after frame c.args.path.now)) =
    omega (arith, c.loop-number-test.true, c.of-placed.ensures.count) in
    sym (cited-next (g.F.PlanFrame.table c.args.frame.now) frame c.args.path.now c.requires.path
    c.of-placed.result.heads k (suc k) c.of-placed.ensures.heads less refl c.in_ok-goal.goal
    (c.in_ok-goal.ensures
    ∙ ap (λ s. goal_of (g.F.PlanFrame.table c.args.frame.now) frame (seen frame c.args.path.now s))
    c.server_at-server.ensures)
    (g.D.Dead.number_of c.args.dead.now) (Some c.in-Some.cited) (sym c.in-Some.is ∙ c.number_of.ensures))
    ∙ c.loop-number.invariant

pub loop-number-preserved : goal.loop-number-preserved
loop-number-preserved g c =
    let frame = g.F.PlanFrame.frame c.args.frame.now in
    let k = c.loop-number.number in
    let less : k < length (placed frame (plan_after frame c.args.path.now)) =
    omega (arith, c.loop-number-test.true, c.of-placed.ensures.count) in
    sym (cited-next (g.F.PlanFrame.table c.args.frame.now) frame c.args.path.now c.requires.path
    c.of-placed.result.heads k (k + 1) c.of-placed.ensures.heads less (omega arith) c.in_ok-goal.goal
    (c.in_ok-goal.ensures
    ∙ ap (λ s. goal_of (g.F.PlanFrame.table c.args.frame.now) frame (seen frame c.args.path.now s))
    c.server_at-server.ensures)
    (g.D.Dead.number_of c.args.dead.now) None
    (sym (none_is c.number_of.result c.in_default.not-Some) ∙ c.number_of.ensures))
    ∙ c.loop-number.invariant
