use Rattle.std.proofs.Common.{◌≡◌, ℕ, ◌-◌, ◌<◌, true, false, ◌&&◌, ◌||◌, nat_lt, get_or, length}
use Rattle.js_numbers.specs.Marking.{is_on}
use Rattle.js_numbers.proofs.sieve.mark_each.Given as goal

abbrev pub invariant-loop-k : goal.invariant-loop-k
invariant-loop-k l = record {
  on : is_on l.first l.step l.k ≡ true;
  marked : (j : ℕ) → j < length l.marks
      → get_or l.marks j false ≡ (get_or l.fn.marks j false || (is_on l.first l.step j && nat_lt j l.k));
}

abbrev pub decreases-loop-k : goal.decreases-loop-k
decreases-loop-k l = l.end - l.k
