-- The set has the literal where its members do.
use Rattle.js_algebra.specs.View.{signed_view, kind_view}
use Rattle.js_algebra.specs.SignedSets.{set_of}
use Rattle.js_check_trees.proofs.StepLaws.{kind-by}
use Rattle.js_check_trees.proofs.steps.kind_step.Goals as goal

pub returns-clause-told : goal.returns-clause-told
returns-clause-told c =
    let T = c.args.core.now.positions in
    let t = kind_view c.args.kind in
    kind-by T t c.args.set.now (signed_view c.args.x) c.has_wrong.result _ c.has_wrong.ensures
    (c.end_where.ensures.told T t (set_of c.args.set.now))
