-- The root contains one of the goals that are left where it contains one of all.
use Rattle.std.proofs.Common.{◌≡◌, drop}
use Rattle.documents.specs.Tests.{some}
use Rattle.goals.specs.Goal.{contains}
use Rattle.js_checker.proofs.listing.root_is_listed.Given as goal

abbrev pub invariant-loop-goal : goal.invariant-loop-goal
invariant-loop-goal l = some (contains l.root) (drop l.goal-index l.goals) ≡ some (contains l.root) l.goals
