use Rattle.std.proofs.Common.{◌≡◌, ℕ, ◌<◌, false, get_or, Some, pos}
use Rattle.js_numbers.specs.declared.candidates.TheConstants.{MOST_STRUCK}
use Rattle.number_groups.specs.Group.{is_met}
use Rattle.js_numbers.specs.View.{group_of}
use Rattle.js_numbers.specs.Marking.{mark_of}
use Rattle.js_numbers.proofs.listed.first_met.Given as goal

abbrev pub invariant-loop-place : goal.invariant-loop-place
invariant-loop-place l =
    (j k : ℕ) → j < l.place → mark_of MOST_STRUCK l.start l.values (get_or l.values j (pos 0)) ≡ Some k
    → is_met (group_of l.group) (get_or l.values j (pos 0)) ≡ false
