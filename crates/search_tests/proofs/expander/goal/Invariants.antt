-- What was added is in the table.
use Rattle.std.proofs.Common.{◌≡◌, map, true}
use Rattle.js_algebra.specs.View.{signed_view, are_in_table}
use Rattle.search_tests.proofs.expander.goal.Given as goal

abbrev pub invariant-loop-plus : goal.invariant-loop-plus
invariant-loop-plus l = are_in_table l.core.positions (map signed_view l.list.items) ≡ true
