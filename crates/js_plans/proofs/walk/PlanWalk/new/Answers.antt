-- No first place was formed.
use Rattle.std.proofs.Common.{sym, subst}
use Rattle.js_plans.specs.Goals.{AreFirst}
use Rattle.js_plans.proofs.walk.PlanWalk.new.Goals as goal

pub returns-clause-walk : goal.returns-clause-walk
returns-clause-walk c = λ T frame.
    c.in_ok-begin.ensures.walk T frame (subst (λ gs. AreFirst T frame 0 gs) (sym c.new-3.ensures.items) tt)
