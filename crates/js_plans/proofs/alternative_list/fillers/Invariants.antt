-- The cells that are left.
use Rattle.std.proofs.Common.{◌≡◌, ◌++◌, map, flat_map, drop}
use Rattle.expansions.specs.Leaves.{filling_of}
use Rattle.js_expansion.specs.View.{filler_view}
use Rattle.js_plans.specs.Named.{naming_view, filler_in}
use Rattle.js_plans.proofs.alternative_list.fillers.Given as goal

abbrev pub invariant-loop-k : goal.invariant-loop-k
invariant-loop-k g l =
    let frame = g.F.PlanFrame.frame l.frame in
    let T = g.F.PlanFrame.table l.frame in
    map filler_view l.fillers.items
    ++ map (filling_of (naming_view l.naming) l.placed)
    (flat_map (filler_in T frame l.members) (drop l.k frame.cells))
    ≡ map (filling_of (naming_view l.naming) l.placed) (flat_map (filler_in T frame l.members) frame.cells)
