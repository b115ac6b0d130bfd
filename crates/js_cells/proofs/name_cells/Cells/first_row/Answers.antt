use Rattle.std.proofs.Common.{below_more, ◌∙◌}
use Rattle.js_cells.proofs.name_cells.Cells.first_row.Goals as goal

pub loop-row-preserved : goal.loop-row-preserved
loop-row-preserved c =
    below_more _ _ c.loop-row.invariant (λ e. c.if-cell_of-cell.false (c.cell_of.ensures.row ∙ e))
