-- The places so far are written in their row, and no other row is.
use Rattle.std.proofs.Common.{◌≡◌, ◌≢◌, ◌<◌, ℕ, length}
use Rattle.js_name_tests.specs.NameTests.{passes}
use Rattle.js_cells.specs.View.{cells_view}
use Rattle.js_objects.specs.Passing.{is_passed_at}
use Rattle.js_objects.proofs.passing.Passing.read.Given as goal

abbrev pub invariant-loop-column : goal.invariant-loop-column
invariant-loop-column l = record {
  wide : l.self.width ≡ l.fn.self.width;
  long : length l.self.truths.items ≡ length l.fn.self.truths.items;
  told : (c : ℕ) → c < l.column → is_passed_at l.self l.row c ≡ passes (cells_view l.cells) c l.test;
  others : (d c : ℕ) → c < l.self.width → d ≢ l.row → is_passed_at l.self d c ≡ is_passed_at l.fn.self d c;
}
