use Rattle.std.proofs.Common.{◌≡◌, ℕ, ◌<◌, false, get_or, pos}
use Rattle.number_groups.specs.Group.{is_met}
use Rattle.js_numbers.specs.View.{group_of}
use Rattle.js_numbers.proofs.listed.search_each.Given as goal

abbrev pub invariant-loop-x : goal.invariant-loop-x
invariant-loop-x l =
    (j : ℕ) → j < l.x-index → is_met (group_of l.group) (get_or l.values j (pos 0)) ≡ false
