use Rattle.js_check_rows.specs.RowsView.{atoms_of, table_of}
use Rattle.js_check_rows.proofs.LabelLemmas.{AreFine}
use Rattle.js_check_rows.proofs.rows.Rows.least.Given as goal

abbrev pub invariant-loop-row : goal.invariant-loop-row
invariant-loop-row l = AreFine (atoms_of l.self) (table_of l.self) l.labels l.row l.first
