-- What the answer means for saturated sets.
use Rattle.js_scalars.proofs.Found.{answer-meets, answer-none}
use Rattle.js_scalars.proofs.numbers.number_alternatives.Goals as goal

pub returns-clause-found : goal.returns-clause-found
returns-clause-found c =
    answer-meets c.args.core.now.positions c.args.core.now.ranks c.len-length.ensures.table c.args.branch.now.set
    c.requires c.args.branch.now.id.number _ c.decided.ensures

pub returns-clause-none : goal.returns-clause-none
returns-clause-none c =
    answer-none c.args.core.now.positions c.args.core.now.ranks c.len-length.ensures.table c.args.branch.now.set
    c.requires c.args.branch.now.id.number _ c.decided.ensures
