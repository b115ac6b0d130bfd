-- The cells that are left.
use Rattle.std.proofs.Common.{◌≡◌, ◌++◌, drop, map}
use Rattle.js_lines.specs.View.{entry_view}
use Rattle.js_plan_lines.specs.Cited.{entry_in}
use Rattle.js_plan_lines.proofs.lines.entries.Given as goal

abbrev pub invariant-loop-cell : goal.invariant-loop-cell
invariant-loop-cell g l =
    let number = g.D.Dead.number_of l.dead in
    let T = g.F.PlanFrame.table l.frame in
    let frame = g.F.PlanFrame.frame l.frame in
    map entry_view l.entries.items ++ map (entry_in number T frame l.members) (drop l.cell-index frame.cells)
    ≡ map (entry_in number T frame l.members) frame.cells
