-- The set has both signs where its members do.
use Rattle.js_algebra.specs.SignedSets.{set_of}
use Rattle.js_check_trees.proofs.StepLaws.{clash-by}
use Rattle.js_check_trees.proofs.steps.clash_step.Goals as goal

pub returns-clause-told : goal.returns-clause-told
returns-clause-told c = λ T t.
    clash-by T t c.args.set.now c.args.p.0 c.has_both.result _ c.has_both.ensures
    (c.end_where.ensures.told T t (set_of c.args.set.now))
