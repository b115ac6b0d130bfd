-- What is left is what was left at first: the rules that were taken had no choice left.
use Rattle.std.proofs.Common.{◌≡◌, length, false}
use Rattle.js_check_trees.specs.OpenSetsView.{table_of, kind_of, duties_after}
use Rattle.js_check_trees.proofs.open_sets.OpenSets.next.Given as goal

abbrev pub invariant-loop-last : goal.invariant-loop-last
invariant-loop-last l = record {
  left : duties_after l.self ≡ duties_after l.fn.self;
  hand : l.self.at_hand ≡ false;
  kind : kind_of l.self ≡ kind_of l.fn.self;
  table : table_of l.self ≡ table_of l.fn.self;
}

abbrev pub decreases-loop-last : goal.decreases-loop-last
decreases-loop-last l = length l.self.pending.items
