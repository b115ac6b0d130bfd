-- The goals that are left.
use Rattle.std.proofs.Common.{◌≡◌, ◌++◌, drop}
use Rattle.js_plans.proofs.alternative_list.copies.Given as goal

abbrev pub invariant-loop-goal : goal.invariant-loop-goal
invariant-loop-goal l = l.copies.items ++ drop l.goal-index l.goals ≡ l.goals
