-- Those from the index on were added.
use Rattle.std.proofs.Common.{◌≡◌, ◌≤◌, ◌++◌, drop, length, reverse}
use Rattle.js_algebra.specs.View.{places}
use Rattle.js_tableau.proofs.reached.add_list.Given as goal

abbrev pub decreases-loop-index : goal.decreases-loop-index
decreases-loop-index l = l.index

abbrev pub invariant-loop-index : goal.invariant-loop-index
invariant-loop-index l = record {
  within : l.index ≤ length l.list;
  added : reverse (places l.waiting.items) ≡ places (drop l.index l.list) ++ reverse (places l.fn.waiting.items);
}
