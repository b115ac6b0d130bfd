-- Where the goal is.
use Rattle.std.proofs.Common.{◌∙◌}
use Rattle.js_explore.proofs.Keys.{number_is}
use Rattle.js_explore.proofs.numbering.number.Goals as goal

pub returns-in-Some : goal.returns-in-Some
returns-in-Some c = c.in-Some.ensures.index ∙ number_is c.args.goal.now c.args.goals.now.keys

pub returns-in-None : goal.returns-in-None
returns-in-None c = c.in-None.ensures.index ∙ number_is c.args.goal.now c.args.goals.now.keys
