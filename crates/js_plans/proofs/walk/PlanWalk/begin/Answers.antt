-- All steps are left.
use Rattle.std.proofs.Common.{◌++◌, [], ◌∷◌, reverse, ap, ap₂, ◌∙◌, append-nil}
use Rattle.frames.specs.Plan.{plan_steps}
use Rattle.js_plans.specs.Servers.{servers_of}
use Rattle.js_plans.specs.Walks.{steps_left}
use Rattle.js_plans.proofs.walk.PlanWalk.begin.Goals as goal

pub returns-clause-left : goal.returns-clause-left
unfolding plan_steps
returns-clause-left c = λ T frame.
    ap₂ (λ es ps. steps_left T frame (servers_of es) (reverse ps)) c.clear.ensures.items
    (c.in_ok-push.ensures.items ∙ ap (λ ps. ps ++ _ ∷ []) c.clear-3.ensures.items)
    ∙ append-nil (plan_steps T frame)
