-- What is said so far, and then what is left.
use Rattle.std.proofs.Common.{◌≡◌, ◌++◌, [], drop, get_or}
use Rattle.js_check_rows.specs.RowsView.{atoms_of}
use Rattle.js_check_objects.specs.Cells.{rows_of}
use Rattle.js_said.specs.Saying.{told_of}
use Rattle.js_check_objects.proofs.telling.vector.Given as goal

abbrev pub invariant-loop-s : goal.invariant-loop-s
invariant-loop-s l =
    l.vector.items ++ told_of l.core.positions (atoms_of l.rows) (drop l.s-index l.said)
    (get_or (rows_of l.rows) l.row [])
    ≡ told_of l.core.positions (atoms_of l.rows) l.said (get_or (rows_of l.rows) l.row [])
