-- What was read, with what is left, requires what the set requires.
use Rattle.std.proofs.Common.{◌≡◌, map, drop, true}
use Rattle.number_finder.specs.SetGroup.{both, number_group}
use Rattle.js_algebra.specs.View.{signed_view, are_in_table}
use Rattle.js_scalars.specs.SoFar.{group_so_far}
use Rattle.js_scalars.proofs.numbers.read_set.Given as goal

abbrev pub invariant-loop-x : goal.invariant-loop-x
invariant-loop-x l = record {
  group :
      both (group_so_far l.asked) (number_group l.core.positions (map signed_view (drop l.x-index l.set)))
      ≡ number_group l.core.positions (map signed_view l.set);
  in_table : are_in_table l.core.positions (map signed_view (drop l.x-index l.set)) ≡ true;
}
