use Rattle.js_check_rows.specs.RowsView.{atoms_of, table_of}
use Rattle.js_check_rows.proofs.LabelLemmas.{AreEnough}
use Rattle.js_check_rows.proofs.rows.Rows.capacity.Given as goal

abbrev pub invariant-loop-row : goal.invariant-loop-row
invariant-loop-row l = AreEnough (atoms_of l.self) (table_of l.self) l.marks l.labels l.row
