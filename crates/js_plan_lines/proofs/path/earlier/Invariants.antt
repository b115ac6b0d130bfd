-- The demands of the path up to here that are served too.
use Rattle.std.proofs.Common.{◌≡◌, ◌++◌, ◌≤◌, drop, map}
use Rattle.js_algebra.specs.View.{signed_view}
use Rattle.js_plans.specs.Servers.{earlier}
use Rattle.js_plan_lines.proofs.path.earlier.Given as goal

abbrev pub invariant-loop-i : goal.invariant-loop-i
invariant-loop-i l = record {
  found : map signed_view l.found.items
      ++ earlier l.server (map signed_view (drop l.i l.demands)) l.members (drop l.i l.path)
      ≡ earlier l.server (map signed_view (drop l.start l.demands)) l.before (drop l.start l.path);
  few : l.members ≤ l.i;
}
