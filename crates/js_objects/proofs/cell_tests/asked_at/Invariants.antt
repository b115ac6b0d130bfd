-- The values that are left.
use Rattle.std.proofs.Common.{◌≡◌, ◌++◌, drop, map, flat_map, length, true}
use Rattle.js_algebra.specs.View.{signed_view}
use Rattle.js_cells.specs.View.{cells_view}
use Rattle.js_name_tests.specs.NameTests.{asks, values_within}
use Rattle.js_objects.proofs.cell_tests.asked_at.Given as goal

abbrev pub invariant-loop-test : goal.invariant-loop-test
invariant-loop-test l =
    let C = cells_view l.cells in
    record {
      list : map signed_view l.asked.items ++ flat_map (asks C l.cell) (drop l.test-index l.values)
          ≡ flat_map (asks C l.cell) l.values;
      within : values_within (length C.names) (drop l.test-index l.values) ≡ true;
    }
