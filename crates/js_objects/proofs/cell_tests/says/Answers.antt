-- No literal is true of a cell that isn't there.
use Rattle.std.proofs.Common.{◌∙◌, get_or, sym, arith}
use Rattle.goals.specs.Signed.{Plus}
use Rattle.std.proofs.lemmas.Bool.{le-ltb}
use Rattle.js_cells.specs.View.{cells_view}
use Rattle.js_name_tests.proofs.Telling.{truth-past}
use Rattle.js_objects.proofs.cell_tests.says.Goals as goal

pub returns-else-cell-len : goal.returns-else-cell-len
returns-else-cell-len c =
    let C = cells_view c.args.cells.now in
    let e = c.len.ensures in
    let h = c.if-cell-len.false in
    le-ltb c.args.cell c.len.result h
    ∙ sym (truth-past C c.args.cell (get_or C.names c.args.literal (Plus 0)) (omega (arith, e, h)))
