-- No label before row `least` is too great for the row, by the classes before.
use Rattle.std.proofs.Common.{◌≡◌, ◌<◌, ◌≤◌, ◌+◌, ◌⊎◌, ℕ, get_or}
use Rattle.verdicts.specs.RowLines.{stated}
use Rattle.js_check_rows.specs.RowsView.{atoms_of, table_of}
use Rattle.js_check_rows.specs.Labels.{IsTooGreat}
use Rattle.js_check_rows.proofs.rows.Rows.first_too_great.Given as goal

abbrev pub invariant-loop-class : goal.invariant-loop-class
invariant-loop-class l = record {
  before : l.least ≤ l.fn.first;
  all : (k : ℕ) → k < l.class → stated (table_of l.self) l.row k < l.least
      → get_or l.labels (stated (table_of l.self) l.row k) 0 ≤ get_or l.labels l.row 0 + 1;
  from : (l.least ≡ l.fn.first) ⊎ IsTooGreat (atoms_of l.self) (table_of l.self) l.labels l.least;
}
