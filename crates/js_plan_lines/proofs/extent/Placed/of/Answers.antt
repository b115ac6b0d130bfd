-- How many are placed is read off the path.
use Rattle.std.proofs.Common.{◌+◌, ap₂, sym, ◌∙◌}
use Rattle.js_plan_lines.specs.Reach.{heads_of}
use Rattle.js_plan_lines.proofs.Placing.{heads-are, placed-count}
use Rattle.js_plan_lines.proofs.extent.Placed.of.Goals as goal

pub returns-clause-heads : goal.returns-clause-heads
returns-clause-heads g c =
    let frame = g.F.PlanFrame.frame c.args.frame.now in
    c.heads_placed-heads.ensures.value
    ∙ ap₂ (heads_of frame) c.extent_of-extent.ensures.used c.extent_of-extent.ensures.members
    ∙ sym (heads-are frame c.args.path.now c.requires.path)

pub returns-clause-count : goal.returns-clause-count
returns-clause-count g c =
    let frame = g.F.PlanFrame.frame c.args.frame.now in
    ap₂ (λ h m. h + m)
    (c.heads_placed-heads.ensures.value
    ∙ ap₂ (heads_of frame) c.extent_of-extent.ensures.used c.extent_of-extent.ensures.members)
    c.extent_of-extent.ensures.members
    ∙ sym (placed-count frame c.args.path.now c.requires.path)
