use Rattle.std.proofs.Common.{◌≡◌, ◌<◌, ℕ, true, false, length, get_or, replicate}
use Rattle.state_laws.specs.Flow.{flag_at, reads_next}
use Rattle.js_pattern.specs.View.{view}
use Rattle.js_nfa.specs.FollowSets.{set_at}
use Rattle.js_nfa.proofs.followers.having_each.Given as goal

abbrev pub invariant-loop-c : goal.invariant-loop-c
invariant-loop-c l = record {
  length : length l.sets.items ≡ l.c-index;
  sets : (i : ℕ) → i < l.c-index → set_at l.sets.items i
      ≡ reads_next (view l.tree) false (flag_at (replicate l.count true)) (get_or l.characters i 0) 0 true;
}
