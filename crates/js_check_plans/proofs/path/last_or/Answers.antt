-- The last one is the last one.
use Rattle.std.proofs.Common.{ap, sym, ◌∙◌}
use Rattle.js_check_plans.specs.Reach.{last_or}
use Rattle.js_check_plans.proofs.PathLemmas.{last_or-push}
use Rattle.js_check_plans.proofs.path.last_or.Goals as goal

pub returns-in-Some : goal.returns-in-Some
returns-in-Some c =
    sym (last_or-push c.args.none c.in-Some.field-0-1.now c.in-Some.last.now)
    ∙ ap (last_or c.args.none) (sym c.in-Some.ensures.cases.0)
