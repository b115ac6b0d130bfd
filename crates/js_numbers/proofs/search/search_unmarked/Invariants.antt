use Rattle.std.proofs.Common.{◌≡◌, ℕ, ◌<◌, false}
use Rattle.js_numbers.specs.View.{group_of}
use Rattle.number_groups.specs.Outcome.{is_last, reached}
use Rattle.js_numbers.proofs.search.search_unmarked.Given as goal

abbrev pub invariant-loop-k : goal.invariant-loop-k
invariant-loop-k l = (j : ℕ) → j < l.k → is_last (group_of l.group) (reached l.m (group_of l.group) j) ≡ false
