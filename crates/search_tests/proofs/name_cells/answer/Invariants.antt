-- All are in the table.
use Rattle.std.proofs.Common.{◌≡◌, map, true}
use Rattle.js_algebra.specs.View.{signed_view, are_in_table}
use Rattle.search_tests.proofs.name_cells.answer.Given as goal

abbrev pub invariant-loop-p : goal.invariant-loop-p
invariant-loop-p l = are_in_table l.core.positions (map signed_view l.set.items) ≡ true
