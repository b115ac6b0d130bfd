-- What is left decides, and its positions are in the table.
use Rattle.std.proofs.Common.{◌≡◌, map, drop, true}
use Rattle.js_algebra.specs.View.{signed_view, are_in_table}
use Rattle.js_algebra.specs.Close.{clashes_nearby}
use Rattle.js_algebra.proofs.table.Core.clashes_nearby.Given as goal

abbrev pub invariant-loop-i : goal.invariant-loop-i
invariant-loop-i l =
    (clashes_nearby l.self.positions (map signed_view (drop l.i l.items)) ≡ clashes_nearby l.self.positions
    (map signed_view l.items))
    × (are_in_table l.self.positions (map signed_view (drop l.i l.items)) ≡ true)
