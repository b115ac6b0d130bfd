-- The size is read off the path.
use Rattle.std.proofs.Common.{ap₂, sym, ◌∙◌}
use Rattle.frames.specs.Frame.{is_at_end}
use Rattle.js_plans.specs.Walks.{size_of}
use Rattle.js_check_plans.proofs.lines.is_over.Goals as goal
use Rattle.js_plans.proofs.Plans.{size-plan}

pub returns : goal.returns
returns g c =
    let frame = g.F.CheckFrame.frame c.args.frame.now in
    c.is_at_end.ensures
    ∙ ap₂ is_at_end
    (c.size.ensures ∙ ap₂ (size_of frame) c.extent.ensures.used c.extent.ensures.members
    ∙ sym (size-plan frame c.args.path.now.servers.items c.requires.few c.requires.valid))
    c.below.ensures
