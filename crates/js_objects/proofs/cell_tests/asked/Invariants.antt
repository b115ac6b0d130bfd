-- The cells so far have their lists.
use Rattle.std.proofs.Common.{◌≡◌, map, flat_map}
use Rattle.std.specs.List.{range_with_len}
use Rattle.js_cells.specs.View.{cells_view}
use Rattle.js_name_tests.specs.NameTests.{asks}
use Rattle.js_objects.proofs.cell_tests.asked.Given as goal

abbrev pub invariant-loop-cell : goal.invariant-loop-cell
invariant-loop-cell l =
    l.asked.items ≡ map (λ c. flat_map (asks (cells_view l.cells) c) l.values) (range_with_len 0 l.cell)
