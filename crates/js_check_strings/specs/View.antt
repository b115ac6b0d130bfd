-- What is left to show of a set at strings.
use Rattle.std.specs.Prelude.{ℕ, List, [], ◌∷◌, Bool, true, false}
use Rattle.positions.specs.Position.{Position}
use Rattle.goals.specs.Signed.{Signed}
use Rattle.verdicts.specs.RowLines.{Table}
use Rattle.verdicts.specs.Duties.{Duty, ForLengths, next_rows}
use Rattle.js_check_rows.specs.RowsView.{count_of, table_of as rows_table}
use Rattle.js_check_strings.specs.declared.open_strings.OpenStrings.{OpenStrings}

abbrev pub table_of : OpenStrings → List Position
table_of x = x.core.now.positions

-- rows, or least lengths once all rows are stated; nothing once all is done
abbrev pub duties_at : List Position → List Signed → Bool → ℕ → Table (List ℕ) → List Duty
duties_at T set true count t = []
duties_at T set false count t = next_rows T ForLengths set count t ∷ []

abbrev pub duties_of : OpenStrings → List Duty
duties_of x = duties_at (table_of x) x.set x.done (count_of x.rows) (rows_table x.rows)
