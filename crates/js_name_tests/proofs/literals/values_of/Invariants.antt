-- What is left goes after the values so far.
use Rattle.std.proofs.Common.{◌≡◌, ◌++◌, drop, map, true}
use Rattle.js_algebra.specs.View.{signed_view, are_in_table}
use Rattle.js_name_tests.specs.NameTests.{value_at, values_from, numbered_value, values_in_table}
use Rattle.js_name_tests.proofs.literals.values_of.Given as goal

abbrev pub invariant-loop-literal : goal.invariant-loop-literal
invariant-loop-literal l =
    let T = l.core.positions in
    record {
      value : map numbered_value l.values.items
          ++ values_from (value_at T) l.literal (map signed_view (drop l.literal l.names))
          ≡ values_from (value_at T) 0 (map signed_view l.names);
      found : values_in_table T l.values.items ≡ true;
      in_table : are_in_table T (map signed_view (drop l.literal l.names)) ≡ true;
    }
