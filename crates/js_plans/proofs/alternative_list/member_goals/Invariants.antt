-- The path that is left goes on from the goals.
use Rattle.std.proofs.Common.{◌≡◌, drop, []}
use Rattle.js_plans.specs.Placing.{put_members}
use Rattle.js_plans.proofs.alternative_list.member_goals.Given as goal

abbrev pub invariant-loop-served : goal.invariant-loop-served
invariant-loop-served l = put_members (drop l.served-index l.path) l.goals.items ≡ put_members l.path []
