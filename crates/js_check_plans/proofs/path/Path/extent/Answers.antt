-- The last number is how far the plan reaches.
use Rattle.std.proofs.Common.{ap, ◌∙◌}
use Rattle.js_check_plans.specs.Reach.{last_or}
use Rattle.js_check_plans.proofs.PathLemmas.{last-used}
use Rattle.js_check_plans.proofs.path.Path.extent.Goals as goal

pub returns-clause-used : goal.returns-clause-used
returns-clause-used c =
    c.last_or.ensures
    ∙ ap (last_or 0) (c.as_slice.ensures.value ∙ c.args.self.now.reach)
    ∙ last-used 0 c.args.self.now.servers.items
