-- The rows that are marked are those of the cell.
use Rattle.std.proofs.Common.{map, ◌∙◌}
use Rattle.js_algebra.specs.View.{signed_view}
use Rattle.js_check_rows.specs.RowsView.{atoms_of, table_of}
use Rattle.js_check_objects.proofs.Enough.{kept_right}
use Rattle.js_check_objects.proofs.open_bounds.OpenBounds.are_right.Goals as goal

pub returns : goal.returns
returns c =
    let x = c.args.self.now in
    c.are_enough.ensures.kept
    ∙ kept_right x.core.now.positions (map signed_view x.set.items) (atoms_of x.rows) (table_of x.rows) x.places.items
    c.in_ok-marks.marks.items c.as_slice.result.now c.args.labels.now c.args.cell c.are_enough.ensures.rule x.atoms
    x.placed c.as_slice.ensures.value c.in_ok-marks.ensures
