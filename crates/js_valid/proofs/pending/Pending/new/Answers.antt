use Rattle.std.proofs.Common.{ap, ◌∙◌}
use Rattle.js_valid.specs.PendingPlaces.{rising}
use Rattle.js_valid.proofs.PendingLaws.{rising-none}
use Rattle.js_valid.proofs.pending.Pending.new.Goals as goal

pub returns : goal.returns
returns c = ap rising c.new.ensures.items ∙ rising-none
