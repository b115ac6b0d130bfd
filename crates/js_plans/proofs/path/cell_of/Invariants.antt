-- The cells that are left, from the one that is left to find.
use Rattle.std.proofs.Common.{◌≡◌, drop, get_or}
use Rattle.js_plans.specs.Servers.{cells_of, servers_of}
use Rattle.js_plans.proofs.path.cell_of.Given as goal

abbrev pub invariant-loop-served : goal.invariant-loop-served
invariant-loop-served l =
    get_or (cells_of (servers_of (drop l.served-index l.path))) l.left 0
    ≡ get_or (cells_of (servers_of l.path)) l.member 0
