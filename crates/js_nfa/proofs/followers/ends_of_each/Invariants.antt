use Rattle.std.proofs.Common.{◌≡◌, ◌≤◌, ◌<◌, ℕ, false, length}
use Rattle.state_laws.specs.Flow.{flag_at, ends_here}
use Rattle.state_laws.specs.FollowSets.{only}
use Rattle.js_pattern.specs.View.{view}
use Rattle.js_nfa.proofs.followers.ends_of_each.Given as goal

abbrev pub invariant-loop-p : goal.invariant-loop-p
invariant-loop-p l = record {
  room : (l.count ≤ l.read.room) × (l.count ≤ l.ends.room);
  many : length l.ends.flags ≡ l.p;
  ends : (p : ℕ) → p < l.p → flag_at l.ends.flags p ≡ ends_here (view l.tree) false false (only p) 0 false;
}
