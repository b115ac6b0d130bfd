-- The counts of all are those of the first ones and of the others.
use Rattle.js_check_plans.specs.Counts.{count_in}
use Rattle.js_check_plans.proofs.CountLemmas.{counts-split}
use Rattle.js_check_plans.proofs.members.Members.cut.Goals as goal

pub loop-i-init : goal.loop-i-init
loop-i-init c = counts-split (count_in c.args.self.counts) c.args.count c.args.self.cells.items c.args.self.counted
