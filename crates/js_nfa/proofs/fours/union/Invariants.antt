use Rattle.std.proofs.Common.{◌≡◌, ◌≤◌, length}
use Rattle.js_nfa.specs.FollowSets.{chosen_sets}
use Rattle.js_nfa.proofs.fours.union.Given as goal

abbrev pub invariant-loop-place : goal.invariant-loop-place
invariant-loop-place l = record {
  room : l.count ≤ l.union.room;
  flags : l.union.flags ≡ chosen_sets l.sets l.first l.bits l.place;
  within : length l.union.flags ≤ l.count;
}
