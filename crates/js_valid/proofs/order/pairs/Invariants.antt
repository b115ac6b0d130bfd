use Rattle.std.proofs.Common.{◌≡◌, ℕ, ◌<◌, length, get_or}
use Rattle.js_valid.proofs.order.pairs.Given as goal

abbrev pub invariant-loop-entry : goal.invariant-loop-entry
invariant-loop-entry l = record {
  len : length l.pairs.items ≡ l.entry;
  each : (k : ℕ) (d : ℕ × ℕ) → k < l.entry → get_or l.pairs.items k d ≡ (get_or l.ranks k 0, k);
}
