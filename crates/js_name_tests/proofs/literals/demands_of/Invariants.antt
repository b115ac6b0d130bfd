-- What is left goes after the demands so far.
use Rattle.std.proofs.Common.{◌≡◌, ◌++◌, drop, map, filter, true}
use Rattle.frames.specs.ObjectFrame as O
use Rattle.js_algebra.specs.View.{signed_view, are_in_table}
use Rattle.js_name_tests.specs.NameTests.{served_at, tests_from}
use Rattle.js_name_tests.proofs.literals.demands_of.Given as goal

abbrev pub invariant-loop-literal : goal.invariant-loop-literal
invariant-loop-literal l =
    let T = l.core.positions in
    record {
      literals : map signed_view l.literals.items
          ++ filter (O.is_demand T) (map signed_view (drop l.literal l.names))
          ≡ filter (O.is_demand T) (map signed_view l.names);
      tests : l.tests.items ++ tests_from (served_at T) l.literal (map signed_view (drop l.literal l.names))
          ≡ tests_from (served_at T) 0 (map signed_view l.names);
      found : are_in_table T (map signed_view l.literals.items) ≡ true;
      in_table : are_in_table T (map signed_view (drop l.literal l.names)) ≡ true;
    }
