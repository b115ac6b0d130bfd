-- The rows before are grouped.
use Rattle.std.proofs.Common.{◌≤◌, take, length}
use Rattle.js_check_rows.specs.RowsView.{atoms_of}
use Rattle.js_check_objects.specs.Cells.{rows_of}
use Rattle.js_said.specs.Saying.{told_of}
use Rattle.js_said.specs.Vectors.{vectors_in}
use Rattle.js_said.proofs.Vectors.{AreGrouped}
use Rattle.js_check_objects.proofs.grouping.group.Given as goal

abbrev pub invariant-loop-row : goal.invariant-loop-row
invariant-loop-row l = record {
  within : l.row ≤ length (rows_of l.rows);
  grouped : AreGrouped (told_of l.core.positions (atoms_of l.rows) l.said) (take l.row (rows_of l.rows))
      (vectors_in l.grouped.vectors.keys) l.grouped.cells.items;
}
