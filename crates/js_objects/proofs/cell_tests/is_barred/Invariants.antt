-- The tests that are left decide.
use Rattle.std.proofs.Common.{◌≡◌, drop, length, true}
use Rattle.documents.specs.Tests.{some}
use Rattle.js_cells.specs.View.{cells_view}
use Rattle.js_name_tests.specs.NameTests.{passes, are_within}
use Rattle.js_objects.proofs.cell_tests.is_barred.Given as goal

abbrev pub invariant-loop-bar : goal.invariant-loop-bar
invariant-loop-bar l = record {
  value : some (passes (cells_view l.cells) l.cell) (drop l.bar-index l.bars)
      ≡ some (passes (cells_view l.cells) l.cell) l.bars;
  within : are_within (length (cells_view l.cells).names) (drop l.bar-index l.bars) ≡ true;
}
