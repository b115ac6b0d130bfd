-- What a plan is dropped for.
use Rattle.std.proofs.Common.{◌≡◌, ◌++◌, ◌≤◌, min, length, arith, ap₂, sym, ◌∙◌, subst}
use Rattle.frames.specs.Frame.{is_at_end}
use Rattle.frames.specs.Plan.{size}
use Rattle.js_plans.specs.Serving.{plan_after}
use Rattle.js_plans.specs.Servers.{servers_of}
use Rattle.js_plans.specs.Walks.{listed, size_of, placed_heads}
use Rattle.js_plans.proofs.Remaining.{after-fits, steps-over, steps-clash}
use Rattle.js_plans.proofs.Shown.{first-clash}
use Rattle.js_plans.proofs.walk.place_first.Goals as goal
use Rattle.js_plans.proofs.Plans.{size-plan}

pub returns-then-is_at_end-clause-dropped : goal.returns-then-is_at_end-clause-dropped
returns-then-is_at_end-clause-dropped g c =
    let T = g.F.PlanFrame.table c.args.frame.now in
    let frame = g.F.PlanFrame.frame c.args.frame.now in
    let ws = servers_of c.args.path.now ++ listed c.args.server in
    let (l, v) = after-fits T frame c.args.path.now c.args.server c.requires.path c.requires.fits in
    let long : c.size-size.result ≡ size frame (plan_after frame ws) =
    c.size-size.ensures ∙ ap₂ (size_of frame) c.extent_after.ensures.used c.extent_after.ensures.members
    ∙ sym (size-plan frame ws l v) in
    steps-over T frame ws l
    (ap₂ is_at_end (sym long) (sym c.below.ensures) ∙ sym c.is_at_end.ensures ∙ c.if-is_at_end.true)

pub returns-then-branch-clause-kept : goal.returns-then-branch-clause-kept
returns-then-branch-clause-kept g c = λ _.
    let T = g.F.PlanFrame.table c.args.frame.now in
    let frame = g.F.PlanFrame.frame c.args.frame.now in
    let ws = servers_of c.args.path.now ++ listed c.args.server in
    let (l, v) = after-fits T frame c.args.path.now c.args.server c.requires.path c.requires.fits in
    let long : c.size-size.result ≡ size frame (plan_after frame ws) =
    c.size-size.ensures ∙ ap₂ (size_of frame) c.extent_after.ensures.used c.extent_after.ensures.members
    ∙ sym (size-plan frame ws l v) in (
      ap₂ is_at_end (sym long) (sym c.below.ensures) ∙ sym c.is_at_end.ensures ∙ c.if-is_at_end.false,
      subst (λ n. n ≤ length c.form_first.new.first.items)
          (c.min-count.ensures ∙ ap₂ min long (c.from.ensures ∙ c.heads.ensures))
          (c.in_ok-form_first.ensures.formed c.if-branch.true),
    )

pub returns-else-branch-clause-dropped : goal.returns-else-branch-clause-dropped
returns-else-branch-clause-dropped g c =
    let T = g.F.PlanFrame.table c.args.frame.now in
    let frame = g.F.PlanFrame.frame c.args.frame.now in
    let ws = servers_of c.args.path.now ++ listed c.args.server in
    let (l, v) = after-fits T frame c.args.path.now c.args.server c.requires.path c.requires.fits in
    let long : c.size-size.result ≡ size frame (plan_after frame ws) =
    c.size-size.ensures ∙ ap₂ (size_of frame) c.extent_after.ensures.used c.extent_after.ensures.members
    ∙ sym (size-plan frame ws l v) in
    let (k, m, e) = c.in_ok-form_first.ensures.clash c.if-branch.false in
    let count : c.min-count.result ≡ placed_heads frame ws =
    c.min-count.ensures ∙ ap₂ min long (c.from.ensures ∙ c.heads.ensures) in
    let (i, h) = first-clash T frame ws k (omega (arith, m, count)) (omega (arith, m, count)) e in (
      i,
      steps-clash T frame ws i l
          (ap₂ is_at_end (sym long) (sym c.below.ensures) ∙ sym c.is_at_end.ensures ∙ c.if-is_at_end.false) h,
    )
