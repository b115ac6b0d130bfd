-- One more is looked at.
use Rattle.std.proofs.Common.{◌<◌, ◌+◌, suc, length, cond, drop, Some, refl, arith, ap, sym, ◌∙◌}
use Rattle.std.specs.Option.{is_none}
use Rattle.frames.specs.Plan.{placed, goal_of, clash_from}
use Rattle.js_plans.specs.Serving.{plan_after}
use Rattle.js_plan_lines.specs.Reach.{seen}
use Rattle.js_plan_lines.proofs.Firsts.{clash-next}
use Rattle.js_plan_lines.proofs.Skipping.{pass-kept}
use Rattle.js_plan_lines.proofs.placed.first_clash.Goals as goal

pub returns-then-branch : goal.returns-then-branch
returns-then-branch g c =
    let T = g.F.PlanFrame.table c.args.frame.now in
    let frame = g.F.PlanFrame.frame c.args.frame.now in
    let k = c.loop-number.number in
    let all = placed frame (plan_after frame c.args.path.now) in
    let less : k < length all = omega (arith, c.loop-number-test.true, c.of-placed.ensures.count) in
    sym (clash-next T frame c.args.path.now c.requires.path c.of-placed.result.heads k (suc k)
    c.of-placed.ensures.heads less refl c.in_ok-is_clash.field-0
    (c.in_ok-is_clash.ensures
    ∙ ap (λ s. is_none (goal_of T frame (seen frame c.args.path.now s))) c.server_at-server.ensures)
    ∙ ap (λ b. cond b (Some k) (clash_from T frame (suc k) (drop (suc k) all))) c.if-branch.true)
    ∙ c.loop-number.invariant

pub loop-number-init : goal.loop-number-init
loop-number-init g c =
    let T = g.F.PlanFrame.table c.args.frame.now in
    let frame = g.F.PlanFrame.frame c.args.frame.now in
    sym (pass-kept T frame c.args.path.now c.requires.path c.of-before.result c.of-before.ensures
    c.of-placed.result.heads c.of-placed.ensures.heads 0 c.skip-number.result c.skip-number.ensures.value
    c.skip-number.ensures.least)

pub loop-number-preserved : goal.loop-number-preserved
loop-number-preserved g c =
    let T = g.F.PlanFrame.table c.args.frame.now in
    let frame = g.F.PlanFrame.frame c.args.frame.now in
    let k = c.loop-number.number in
    let all = placed frame (plan_after frame c.args.path.now) in
    let less : k < length all = omega (arith, c.loop-number-test.true, c.of-placed.ensures.count) in
    sym (pass-kept T frame c.args.path.now c.requires.path c.of-before.result c.of-before.ensures
    c.of-placed.result.heads c.of-placed.ensures.heads (k + 1) c.skip-number-in-loop-number.result
    c.skip-number-in-loop-number.ensures.value c.skip-number-in-loop-number.ensures.least)
    ∙ sym (clash-next T frame c.args.path.now c.requires.path c.of-placed.result.heads k (k + 1)
    c.of-placed.ensures.heads less (omega arith) c.in_ok-is_clash.field-0
    (c.in_ok-is_clash.ensures
    ∙ ap (λ s. is_none (goal_of T frame (seen frame c.args.path.now s))) c.server_at-server.ensures)
    ∙ ap (λ b. cond b (Some k) (clash_from T frame (k + 1) (drop (k + 1) all))) c.if-branch.false)
    ∙ c.loop-number.invariant
