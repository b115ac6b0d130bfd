-- Another number of entries.
use Rattle.std.proofs.Common.{map, length, ap, sym, ◌∙◌}
use Rattle.std.proofs.lemmas.List.{length-map}
use Rattle.verdicts.specs.Duties as D
use Rattle.verdicts.specs.Verdict.{cites}
use Rattle.js_lines.specs.View.{entry_view}
use Rattle.js_check_plans.proofs.RoomLemmas.{rooms-other}
use Rattle.js_check_plans.proofs.rooms.rooms.Goals as goal

pub returns-then-entries-cells : goal.returns-then-entries-cells
returns-then-entries-cells g c =
    let frame = g.F.CheckFrame.frame c.args.frame.now in
    let es = map entry_view c.args.entries.now in
    sym (rooms-other (g.F.CheckFrame.table c.args.frame.now) (cites c.args.goals.now) frame
    c.args.members.now.cells.items
    frame.cells (map D.entry es)
    (λ h. c.if-entries-cells.true
    (sym (length-map es D.entry ∙ length-map c.args.entries.now entry_view) ∙ h
    ∙ ap length (sym c.cells-cells.ensures))))
