-- There is no choice before the members that are left.
use Rattle.std.proofs.Common.{◌≡◌, drop, get_or}
use Rattle.goals.specs.Signed as G
use Rattle.js_plans.specs.Choosing.{serving_cells}
use Rattle.js_check_plans.proofs.choices.first_member.Given as goal

abbrev pub invariant-loop-k : goal.invariant-loop-k
invariant-loop-k g l =
    let frame = g.F.CheckFrame.frame l.frame in
    let d = get_or frame.demands l.demand (G.Plus 0) in
    serving_cells frame d l.k (drop l.k l.members.cells.items)
    ≡ serving_cells frame d l.from (drop l.from l.members.cells.items)
