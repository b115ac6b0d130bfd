use Rattle.std.proofs.Common.{◌≡◌, ◌≤◌, ◌&&◌, ℕ, false, length, take}
use Rattle.state_laws.specs.Flow.{flag_at}
use Rattle.state_laws.specs.FollowSets.{may_follow}
use Rattle.js_pattern.specs.View.{view}
use Rattle.js_nfa.specs.FollowSets.{is_shown}
use Rattle.js_nfa.proofs.followers.follow_set.Given as goal

abbrev pub invariant-loop-c : goal.invariant-loop-c
invariant-loop-c l = record {
  room : (l.count ≤ l.follow_set.room) × (l.count ≤ l.reads.room);
  length : length l.follow_set.flags ≡ l.count;
  flags : (q : ℕ) → flag_at l.follow_set.flags q
      ≡ (flag_at (may_follow (view l.tree) false (flag_at l.read.flags) 0 l.begins) q
      && is_shown (view l.tree) (take l.c-index l.characters) q);
}
