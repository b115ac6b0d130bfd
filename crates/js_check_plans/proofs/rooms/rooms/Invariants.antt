-- The rooms so far, and those of the cells that are left.
use Rattle.std.proofs.Common.{◌≡◌, ◌≤◌, ◌*◌, ◌^◌, map, drop, Some}
use Rattle.frames.specs.PlanLines.{plus}
use Rattle.verdicts.specs.Duties as D
use Rattle.verdicts.specs.Verdict.{cites}
use Rattle.js_lines.specs.View.{entry_view}
use Rattle.js_check_plans.specs.Rooms.{rooms_in}
use Rattle.js_check_plans.proofs.rooms.rooms.Given as goal

abbrev pub invariant-loop-i : goal.invariant-loop-i
invariant-loop-i g l =
    let frame = g.F.CheckFrame.frame l.frame in
    let T = g.F.CheckFrame.table l.frame in
    record {
      sum : plus (Some l.total) (rooms_in T (cites l.goals) frame l.members.cells.items (drop l.i l.cells)
          (map D.entry (map entry_view (drop l.i l.entries))))
          ≡ rooms_in T (cites l.goals) frame l.members.cells.items l.cells (map D.entry (map entry_view l.entries));
      bound : l.total ≤ 2 ^ 32 * l.i;
    }
