-- One more cell.
use Rattle.std.proofs.Common.{ℕ, flat_map, arith}
use Rattle.std.proofs.lemmas.Grind.{common_steps}
use Rattle.std.proofs.lemmas.List.FromFn.{map-range_with_len_more}
use Rattle.js_cells.specs.View.{cells_view}
use Rattle.js_name_tests.specs.NameTests.{asks}
use Rattle.js_objects.proofs.cell_tests.asked.Goals as goal

pub loop-cell-preserved : goal.loop-cell-preserved
loop-cell-preserved c =
    let f = λ (k : ℕ). flat_map (asks (cells_view c.args.cells.now) k) c.args.values.now in
    let h = map-range_with_len_more f 0 c.loop-cell.cell c.loop-cell.cell (omega arith) in
    grind (arith, common_steps, h)
