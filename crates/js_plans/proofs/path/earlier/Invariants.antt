-- The demands of the path up to here that are served too.
use Rattle.std.proofs.Common.{◌≡◌, ◌++◌, ◌≤◌, drop, map}
use Rattle.js_algebra.specs.View.{signed_view}
use Rattle.js_plans.specs.Servers.{earlier, servers_of}
use Rattle.js_plans.proofs.path.earlier.Given as goal

abbrev pub invariant-loop-i : goal.invariant-loop-i
invariant-loop-i l = record {
  found : map signed_view l.found.items
      ++ earlier l.server (map signed_view (drop l.i l.demands)) l.members (servers_of (drop l.i l.path))
      ≡ earlier l.server (map signed_view l.demands) 0 (servers_of l.path);
  few : l.members ≤ l.i;
}
