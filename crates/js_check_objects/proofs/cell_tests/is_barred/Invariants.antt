-- The tests that are left decide.
use Rattle.std.proofs.Common.{◌≡◌, drop, length, true}
use Rattle.documents.specs.Tests.{some}
use Rattle.js_check_objects.specs.Cells.{cells_in}
use Rattle.js_name_tests.specs.NameTests.{passes, are_within}
use Rattle.js_check_objects.proofs.cell_tests.is_barred.Given as goal

abbrev pub invariant-loop-bar : goal.invariant-loop-bar
invariant-loop-bar l = record {
  value : some (passes (cells_in l.cells) l.cell) (drop l.bar-index l.bars)
      ≡ some (passes (cells_in l.cells) l.cell) l.bars;
  within : are_within (length (cells_in l.cells).names) (drop l.bar-index l.bars) ≡ true;
}
