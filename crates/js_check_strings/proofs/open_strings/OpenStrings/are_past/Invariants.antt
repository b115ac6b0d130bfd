-- The rows before are past the bound, or aren't wanted.
use Rattle.std.proofs.Common.{◌≡◌, ◌<◌, ℕ, true}
use Rattle.js_check_rows.specs.RowsView.{table_of as rows_table}
use Rattle.js_check_strings.specs.View.{table_of}
use Rattle.js_check_strings.proofs.LeastLaws.{row_past}
use Rattle.js_check_strings.proofs.open_strings.OpenStrings.are_past.Given as goal

abbrev pub invariant-loop-row : goal.invariant-loop-row
invariant-loop-row l =
    (r : ℕ) → r < l.row → row_past (table_of l.self) l.self.set (rows_table l.self.rows) l.labels r ≡ true
