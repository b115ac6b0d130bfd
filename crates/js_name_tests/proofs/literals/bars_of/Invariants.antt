-- What is left goes after the tests so far.
use Rattle.std.proofs.Common.{◌≡◌, ◌++◌, drop, map, true}
use Rattle.js_algebra.specs.View.{signed_view, are_in_table}
use Rattle.js_name_tests.specs.NameTests.{barred_at, tests_from}
use Rattle.js_name_tests.proofs.literals.bars_of.Given as goal

abbrev pub invariant-loop-literal : goal.invariant-loop-literal
invariant-loop-literal l =
    let T = l.core.positions in
    record {
      value : l.bars.items ++ tests_from (barred_at T) l.literal (map signed_view (drop l.literal l.names))
          ≡ tests_from (barred_at T) 0 (map signed_view l.names);
      in_table : are_in_table T (map signed_view (drop l.literal l.names)) ≡ true;
    }
