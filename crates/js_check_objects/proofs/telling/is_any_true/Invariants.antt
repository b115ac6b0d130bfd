-- The atoms that are left decide.
use Rattle.std.proofs.Common.{◌≡◌, [], drop, get_or, true}
use Rattle.documents.specs.Tests.{some}
use Rattle.js_check_rows.specs.RowsView.{atoms_of}
use Rattle.js_check_objects.specs.Cells.{rows_of}
use Rattle.js_said.specs.AtomNumbers.{is_true_at, are_below}
use Rattle.js_check_objects.proofs.telling.is_any_true.Given as goal

abbrev pub invariant-loop-number : goal.invariant-loop-number
invariant-loop-number l = record {
  below : are_below (atoms_of l.rows) (drop l.number-index l.numbers) ≡ true;
  decide : some (is_true_at (atoms_of l.rows) (get_or (rows_of l.rows) l.row []))
      (drop l.number-index l.numbers)
      ≡ some (is_true_at (atoms_of l.rows) (get_or (rows_of l.rows) l.row [])) l.numbers;
}
