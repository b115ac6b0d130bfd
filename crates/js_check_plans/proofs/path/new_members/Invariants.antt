-- What is left of the servers goes on from the count.
use Rattle.std.proofs.Common.{◌≡◌, ◌+◌, ◌≤◌, drop, length}
use Rattle.js_plans.specs.Servers.{cells_of}
use Rattle.js_check_plans.proofs.path.new_members.Given as goal

abbrev pub invariant-loop-server : goal.invariant-loop-server
invariant-loop-server l = record {
  value : l.count + length (cells_of (drop l.server-index l.servers)) ≡ length (cells_of l.servers);
  few : l.count ≤ l.server-index;
}
