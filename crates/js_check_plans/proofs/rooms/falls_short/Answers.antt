-- The need and the rooms are read off the path.
use Rattle.std.proofs.Common.{◌+◌, ◌-◌, max, map, ap, ap₂, sym, ◌∙◌}
use Rattle.frames.specs.PlanLines.{is_short}
use Rattle.verdicts.specs.Duties as D
use Rattle.verdicts.specs.Verdict.{cites}
use Rattle.js_lines.specs.View.{entry_view}
use Rattle.js_plans.specs.Walks.{size_of}
use Rattle.js_check_plans.specs.Rooms.{rooms_in}
use Rattle.js_check_plans.proofs.RoomLemmas.{need-path, rooms-path}
use Rattle.js_check_plans.proofs.rooms.falls_short.Goals as goal

pub returns : goal.returns
returns g c =
    let T = g.F.CheckFrame.table c.args.frame.now in
    let frame = g.F.CheckFrame.frame c.args.frame.now in
    let cite = cites c.args.goals.now in
    let es = map D.entry (map entry_view c.args.entries.now) in
    c.is_short.ensures
    ∙ ap₂ is_short
    (c.need.ensures
    ∙ ap₂ (λ u m. max frame.lower (size_of frame u m) - (frame.heads + m)) c.extent.ensures.used
    c.extent.ensures.members
    ∙ sym (need-path frame c.args.path.now.servers.items c.requires))
    (c.in_ok-rooms.ensures
    ∙ ap (λ ms. rooms_in T cite frame ms frame.cells es) c.members.ensures
    ∙ sym (rooms-path T cite frame c.args.path.now.servers.items frame.cells es c.requires.few))
