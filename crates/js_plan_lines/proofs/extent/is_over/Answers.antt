-- The size is read off the path.
use Rattle.std.proofs.Common.{ap₂, sym, ◌∙◌}
use Rattle.frames.specs.Frame.{is_at_end}
use Rattle.js_plans.specs.Walks.{size_of}
use Rattle.js_plan_lines.proofs.extent.is_over.Goals as goal
use Rattle.js_plans.proofs.Plans.{size-plan}

pub returns : goal.returns
returns g c =
    let frame = g.F.PlanFrame.frame c.args.frame.now in
    c.is_at_end.ensures
    ∙ ap₂ is_at_end
    (c.size.ensures ∙ ap₂ (size_of frame) c.extent_of.ensures.used c.extent_of.ensures.members
    ∙ sym (size-plan frame c.args.path.now c.requires.path.few c.requires.path.valid))
    c.below.ensures
