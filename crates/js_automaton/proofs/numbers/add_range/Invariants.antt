use Rattle.std.proofs.Common.{◌≡◌, ℕ, ◌<◌, ◌≤◌, ◌-◌, ◌&&◌, nat_le, nat_lt, if◌then◌else◌, length, get_or}
use Rattle.js_automaton.proofs.numbers.add_range.Given as goal

abbrev pub invariant-loop-i : goal.invariant-loop-i
invariant-loop-i l = record {
  from : l.initial.i ≤ l.i;
  within : l.i ≤ length l.starts;
  long : length l.sides.items ≡ length l.starts;
  sides : (k : ℕ) → k < length l.starts → get_or l.sides.items k 0
      ≡ (if nat_le l.initial.i k && nat_lt k l.i then 1 else get_or l.fn.sides.items k 0);
  low : (k : ℕ) → l.initial.i ≤ k → k < l.i → get_or l.starts k 0 ≤ l.high;
}

abbrev pub decreases-loop-i : goal.decreases-loop-i
decreases-loop-i l = length l.starts - l.i
