-- Nothing is mentioned so far.
use Rattle.std.proofs.Common.{◌≡◌, ℕ, [], length, get_or}
use Rattle.js_waiting.proofs.mentions.Mentions.none.Given as goal

abbrev pub invariant-loop-goal : goal.invariant-loop-goal
invariant-loop-goal l = record {
  goals : length l.goals.items ≡ l.goal;
  none : (m : ℕ) → get_or l.goals.items m [] ≡ [];
}
