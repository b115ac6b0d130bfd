use Rattle.std.proofs.Common.{◌≡◌, ◌<◌, ℕ, true, false, length, replicate}
use Rattle.state_laws.specs.Flow.{flag_at, reads_next}
use Rattle.js_pattern.specs.View.{view}
use Rattle.js_nfa.specs.FollowSets.{set_at}
use Rattle.js_nfa.proofs.followers.having.Given as goal

abbrev pub invariant-loop-c : goal.invariant-loop-c
invariant-loop-c l = record {
  length : length l.sets.items ≡ l.c;
  sets : (b : ℕ) → b < l.c
      → set_at l.sets.items b ≡ reads_next (view l.tree) false (flag_at (replicate l.count true)) b 0 true;
}
