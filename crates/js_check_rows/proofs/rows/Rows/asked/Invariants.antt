-- What the classes before require, and that so many products of two numbers of 32 bits fit.
use Rattle.std.proofs.Common.{◌≡◌, ◌≤◌, ◌+◌, ◌*◌, cond, false, get_or}
use Rattle.cell_laws.specs.Counting.{sum_to}
use Rattle.verdicts.specs.RowLines.{stated}
use Rattle.verdicts.specs.Bounds.{width_of}
use Rattle.js_check_rows.specs.RowsView.{atoms_of, table_of}
use Rattle.js_check_rows.proofs.rows.Rows.asked.Given as goal

abbrev pub invariant-loop-class : goal.invariant-loop-class
invariant-loop-class l = record {
  asked : l.asked
      ≡ cond (get_or l.marks l.row false) 1 0
      + sum_to l.class (λ k. width_of (atoms_of l.self) k * get_or l.labels (stated (table_of l.self) l.row k) 0);
  fits : l.asked ≤ 1 + l.class * (4294967295 * 4294967295);
}
