-- The frame is the one of the set over the cells of the rows, with the bounds that were stated.
use Rattle.std.proofs.Common.{[], ◌∷◌, map, ap, ◌∙◌}
use Rattle.verdicts.specs.Bounds.{bounds_of}
use Rattle.verdicts.specs.Duties.{OfObjects, plan_duty}
use Rattle.verdicts.specs.Leaves.{table_cells}
use Rattle.js_algebra.specs.View.{signed_view}
use Rattle.js_check_rows.specs.RowsView.{table_of}
use Rattle.js_check_objects.specs.Bounds.{bounds_in, cap_at}
use Rattle.js_check_objects.specs.Cells.{cells_in}
use Rattle.js_check_objects.specs.FrameView.{frame_view}
use Rattle.js_check_objects.proofs.Frames.{frame_same}
use Rattle.js_check_objects.proofs.open_plan.OpenPlan.new.Goals as goal

pub invariant_of-result : goal.invariant_of-result
invariant_of-result c = record { are_open = c.new-2.ensures.plans (frame_view c.in_ok-frame.frame) }

pub returns-clause-plan : goal.returns-clause-plan
returns-clause-plan c =
    let x = c.args.from in
    let T = x.core.now.positions in
    let S = map signed_view x.set.items in
    c.new-2.ensures.duties OfObjects (frame_view c.in_ok-frame.frame)
    ∙ ap (λ f. plan_duty OfObjects f ∷ [])
    (c.in_ok-frame.ensures.frame
    ∙ frame_same T (cells_in x.cells) (table_cells T S (table_of x.rows)) x.named x.grouped (cap_at x.caps.items)
    (bounds_of (bounds_in x.stated.items)) x.capped (λ k n. 0) S)
