-- The values that are left.
use Rattle.std.proofs.Common.{◌≡◌, ◌++◌, drop, map, flat_map, length, true}
use Rattle.js_algebra.specs.View.{signed_view, are_in_table}
use Rattle.js_check_objects.specs.Cells.{cells_in}
use Rattle.js_name_tests.specs.NameTests.{asks, values_within, values_in_table}
use Rattle.js_check_objects.proofs.object_frame.ObjectFrame.add_values.Given as goal

abbrev pub invariant-loop-test : goal.invariant-loop-test
invariant-loop-test l =
    let T = l.self.core.now.positions in
    let C = cells_in l.self.cells in
    record {
      list : map signed_view l.list.items ++ flat_map (asks C l.cell) (drop l.test-index l.self.values.items)
          ≡ map signed_view l.fn.list.items ++ flat_map (asks C l.cell) l.self.values.items;
      in_table : are_in_table T (map signed_view l.fn.list.items) ≡ true
          → are_in_table T (map signed_view l.list.items) ≡ true;
      within : values_within (length C.names) (drop l.test-index l.self.values.items) ≡ true;
      left : values_in_table T (drop l.test-index l.self.values.items) ≡ true;
    }
