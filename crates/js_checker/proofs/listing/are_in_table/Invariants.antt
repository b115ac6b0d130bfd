-- The signed positions that are left are in the table where all of them are.
use Rattle.std.proofs.Common.{◌≡◌, map, drop}
use Rattle.js_algebra.specs.View.{signed_view, are_in_table}
use Rattle.js_checker.proofs.listing.are_in_table.Given as goal

abbrev pub invariant-loop-x : goal.invariant-loop-x
invariant-loop-x l = are_in_table l.core.positions (map signed_view (drop l.x-index l.list))
    ≡ are_in_table l.core.positions (map signed_view l.list)
