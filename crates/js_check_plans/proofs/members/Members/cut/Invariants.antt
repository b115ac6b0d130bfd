-- The counts are of the members that stay and of those that are left.
use Rattle.std.proofs.Common.{◌≡◌, ◌+◌, take, drop, ℕ}
use Rattle.frames.specs.Fillers.{times}
use Rattle.js_check_plans.specs.Counts.{count_in}
use Rattle.js_check_plans.proofs.members.Members.cut.Given as goal

abbrev pub invariant-loop-i : goal.invariant-loop-i
invariant-loop-i l = (c : ℕ) → count_in l.counts c
    ≡ times c (take l.count l.cells.items) + times c (drop l.i l.cells.items)
