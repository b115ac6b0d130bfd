-- The cells so far have their words, and the others none.
use Rattle.std.proofs.Common.{◌≡◌, ◌<◌, ℕ, [], length, get_or, take}
use Rattle.js_cells.specs.View.{cells_view}
use Rattle.js_objects.proofs.words.needed_words.Given as goal

abbrev pub invariant-loop-cell : goal.invariant-loop-cell
invariant-loop-cell l = record {
  long : length l.lists.items ≡ l.cell;
  words : (c : ℕ) → c < l.cell → get_or l.lists.items c []
      ≡ take (get_or l.needs c 0) ((cells_view l.cells).words c);
}
