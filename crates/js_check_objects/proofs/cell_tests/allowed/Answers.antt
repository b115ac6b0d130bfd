use Rattle.std.proofs.Common.{not, arith}
use Rattle.std.proofs.lemmas.Grind.{common_steps}
use Rattle.documents.specs.Tests.{some}
use Rattle.js_check_objects.specs.Cells.{cells_in}
use Rattle.js_name_tests.specs.NameTests.{passes}
use Rattle.js_check_objects.proofs.cell_tests.allowed.Goals as goal
use Rattle.list_laws.proofs.Tests.{filter-range_more}

pub loop-cell-preserved : goal.loop-cell-preserved
loop-cell-preserved c =
    let h = filter-range_more (λ k. not (some (passes (cells_in c.args.cells.now) k) c.args.bars.now))
    c.loop-cell.cell in
    grind (arith, common_steps, h)
