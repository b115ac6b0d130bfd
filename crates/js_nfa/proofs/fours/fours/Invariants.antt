use Rattle.std.proofs.Common.{◌≡◌, ◌<◌, ◌*◌, ◌/◌, ◌%◌, ℕ, length}
use Rattle.js_nfa.specs.FollowSets.{set_at, HaveAtMost, chosen_sets}
use Rattle.js_nfa.proofs.fours.fours.Given as goal

abbrev pub invariant-loop-index : goal.invariant-loop-index
invariant-loop-index l = record {
  as_many : length l.fours.items ≡ l.index;
  sets : (n : ℕ) → n < l.index → set_at l.fours.items n ≡ chosen_sets l.sets (4 * (n / 16)) (n % 16) 4;
  within : HaveAtMost l.count l.fours.items;
}
