-- There is no choice before the cells that are left.
use Rattle.std.proofs.Common.{◌≡◌, drop, get_or}
use Rattle.goals.specs.Signed as G
use Rattle.js_plans.specs.Choosing.{open_cells}
use Rattle.js_check_plans.proofs.choices.first_new.Given as goal

abbrev pub invariant-loop-i : goal.invariant-loop-i
invariant-loop-i g l =
    let frame = g.F.CheckFrame.frame l.frame in
    let d = get_or frame.demands l.demand (G.Plus 0) in
    open_cells frame d l.members.cells.items (drop l.i frame.cells)
    ≡ open_cells frame d l.members.cells.items (drop l.from frame.cells)
