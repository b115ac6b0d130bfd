use Rattle.std.proofs.Common.{◌≡◌, ◌≤◌, ◌<◌, ◌&&◌, ℕ, false, length}
use Rattle.state_laws.specs.Flow.{flag_at, ends_here}
use Rattle.state_laws.specs.FollowSets.{only, may_follow}
use Rattle.js_pattern.specs.View.{view}
use Rattle.js_nfa.specs.FollowSets.{set_at, HaveLength, is_shown}
use Rattle.js_nfa.proofs.followers.follow_sets_of_each.Given as goal

abbrev pub invariant-loop-p : goal.invariant-loop-p
invariant-loop-p l = record {
  room : (l.count ≤ l.read.room) × (l.count ≤ l.ends.room);
  as_many : length l.sets.items ≡ l.p;
  long : HaveLength l.count l.sets.items;
  sets : (p q : ℕ) → p < l.p → flag_at (set_at l.sets.items p) q
      ≡ (flag_at (may_follow (view l.tree) false (only p) 0 false) q && is_shown (view l.tree) l.characters q);
  many : length l.ends.flags ≡ l.p;
  ends : (p : ℕ) → p < l.p → flag_at l.ends.flags p ≡ ends_here (view l.tree) false false (only p) 0 false;
}
