-- The cells of the path up to here.
use Rattle.std.proofs.Common.{◌≡◌, ◌++◌, drop}
use Rattle.js_plans.specs.Servers.{cells_of, servers_of}
use Rattle.js_plans.proofs.path.cells.Given as goal

abbrev pub invariant-loop-served : goal.invariant-loop-served
invariant-loop-served l =
    l.cells.items ++ cells_of (servers_of (drop l.served-index l.path)) ≡ cells_of (servers_of l.path)
