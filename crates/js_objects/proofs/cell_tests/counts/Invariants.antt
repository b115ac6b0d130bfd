-- The cells so far have their counts.
use Rattle.std.proofs.Common.{◌≡◌, ◌<◌, ℕ, min, get_or, length}
use Rattle.js_cells.specs.View.{cells_view}
use Rattle.js_objects.proofs.cell_tests.counts.Given as goal

abbrev pub invariant-loop-cell : goal.invariant-loop-cell
invariant-loop-cell l = record {
  many : length l.counts.items ≡ l.cell;
  counts : (c : ℕ) → c < l.cell → get_or l.counts.items c 0 ≡ min 65537 (length ((cells_view l.cells).words c));
}
