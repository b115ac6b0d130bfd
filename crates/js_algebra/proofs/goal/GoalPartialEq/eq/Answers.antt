use Rattle.std.proofs.Common.{ap₂, ◌∙◌}
use Rattle.js_algebra.specs.Equality.{same_goal}
use Rattle.js_algebra.proofs.Sorting.{same_fields}
use Rattle.js_algebra.proofs.Equal.{pointwise-signed}
use Rattle.js_algebra.proofs.goal.GoalPartialEq.eq.Goals as goal

pub returns : goal.returns
returns c =
    c.eq.ensures ∙ pointwise-signed _ (λ x y. same_fields x.plus y.plus x.pos.0 y.pos.0) c.self.inside.items.items
    c.other.inside.items.items
    ∙ ap₂ same_goal c.self.view_is c.other.view_is
