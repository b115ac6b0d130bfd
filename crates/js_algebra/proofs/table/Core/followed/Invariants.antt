-- What was found, and what the rest of the list still gives.
use Rattle.std.proofs.Common.{◌≡◌, ◌++◌, map, drop, true}
use Rattle.goals.specs.Goal.{followed}
use Rattle.js_algebra.specs.View.{signed_view, are_in_table}
use Rattle.js_algebra.proofs.table.Core.followed.Given as goal

abbrev pub invariant-loop-x : goal.invariant-loop-x
invariant-loop-x l =
    (map signed_view l.found.items ++ followed l.self.positions
    (map signed_view (drop l.x-index l.list)) ≡ followed l.self.positions (map signed_view l.list))
    × (are_in_table l.self.positions (map signed_view l.found.items) ≡ true)
    × (are_in_table l.self.positions (map signed_view (drop l.x-index l.list)) ≡ true)
