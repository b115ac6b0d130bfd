-- The path that is left goes on from the goals.
use Rattle.std.proofs.Common.{◌≡◌, drop}
use Rattle.js_plans.specs.Placing.{put_heads}
use Rattle.js_plans.proofs.alternative_list.head_goals.Given as goal

abbrev pub invariant-loop-served : goal.invariant-loop-served
invariant-loop-served l = put_heads (drop l.served-index l.path) l.goals.items ≡ put_heads l.path l.first
