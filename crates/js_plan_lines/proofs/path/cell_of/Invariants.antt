-- The cells that are left, from the one that is left to find.
use Rattle.std.proofs.Common.{◌≡◌, drop, get_or}
use Rattle.js_plans.specs.Servers.{cells_of}
use Rattle.js_plan_lines.proofs.path.cell_of.Given as goal

abbrev pub invariant-loop-server : goal.invariant-loop-server
invariant-loop-server l =
    get_or (cells_of (drop l.server-index l.path)) l.left 0 ≡ get_or (cells_of l.path) l.member 0
