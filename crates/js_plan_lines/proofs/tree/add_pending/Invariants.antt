-- The servers that are left go before those that were added.
use Rattle.std.proofs.Common.{◌≡◌, ◌++◌, map, reverse, length}
use Rattle.js_plan_lines.specs.Left.{entry}
use Rattle.js_plan_lines.proofs.tree.add_pending.Given as goal

abbrev pub invariant-loop-server : goal.invariant-loop-server
invariant-loop-server l =
    map (entry l.level) l.servers.items ++ reverse l.pending.items
    ≡ map (entry l.level) l.fn.servers.items ++ reverse l.fn.pending.items

abbrev pub decreases-loop-server : goal.decreases-loop-server
decreases-loop-server l = length l.servers.items
