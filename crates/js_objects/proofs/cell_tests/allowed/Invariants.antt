-- The cells that are left go after those so far.
use Rattle.std.proofs.Common.{◌≡◌, filter, not}
use Rattle.std.specs.List.{range_with_len}
use Rattle.documents.specs.Tests.{some}
use Rattle.js_cells.specs.View.{cells_view}
use Rattle.js_name_tests.specs.NameTests.{passes}
use Rattle.js_objects.proofs.cell_tests.allowed.Given as goal

abbrev pub invariant-loop-cell : goal.invariant-loop-cell
invariant-loop-cell l =
    l.allowed.items ≡ filter (λ c. not (some (passes (cells_view l.cells) c) l.bars)) (range_with_len 0 l.cell)
