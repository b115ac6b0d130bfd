-- The truths so far, and then those of the atoms that are left.
use Rattle.std.proofs.Common.{◌≡◌, ◌++◌, [], map, drop, get_or, true}
use Rattle.js_check_rows.specs.RowsView.{atoms_of}
use Rattle.js_check_objects.specs.Cells.{rows_of}
use Rattle.js_said.specs.AtomNumbers.{is_true_at, are_below}
use Rattle.js_check_objects.proofs.telling.tell.Given as goal

abbrev pub invariant-loop-number : goal.invariant-loop-number
invariant-loop-number l = record {
  below : are_below (atoms_of l.rows) (drop l.number-index l.numbers) ≡ true;
  truths : l.truths.items ++ map (is_true_at (atoms_of l.rows) (get_or (rows_of l.rows) l.row []))
      (drop l.number-index l.numbers)
      ≡ map (is_true_at (atoms_of l.rows) (get_or (rows_of l.rows) l.row [])) l.numbers;
}
