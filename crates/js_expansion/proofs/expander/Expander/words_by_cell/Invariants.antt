-- The cells so far have their words, and the others none.
use Rattle.std.proofs.Common.{◌≡◌, ◌<◌, ℕ, [], length, get_or, take}
use Rattle.alternatives.specs.Slots.{cell_at}
use Rattle.js_algebra.specs.View.{kind_view}
use Rattle.js_expansion.proofs.expander.Expander.words_by_cell.Given as goal

abbrev pub invariant-loop-cell : goal.invariant-loop-cell
invariant-loop-cell g l = record {
  long : length l.lists.items ≡ l.cell;
  words : (c : ℕ) → c < l.cell → get_or l.lists.items c [] ≡ take (get_or l.needs c 0)
      (cell_at (g.Self.Expander.cells l.self l.goal (kind_view l.branch.kind) l.branch.number) c);
}
