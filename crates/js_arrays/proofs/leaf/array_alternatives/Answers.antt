-- The meaning of the answer.
use Rattle.js_arrays.proofs.Meaning.{follows, makes}
use Rattle.js_arrays.proofs.leaf.array_alternatives.Goals as goal

pub returns-clause-follows : goal.returns-clause-follows
returns-clause-follows c =
    follows c.args.core.now.positions c.args.core.now.ranks c.len-length.ensures.table c.args.branch.now.id.number
    c.args.branch.now.set c.leaf.result c.leaf.ensures

pub returns-clause-makes : goal.returns-clause-makes
returns-clause-makes c =
    makes c.args.core.now.positions c.args.core.now.ranks c.len-length.ensures.table c.args.branch.now.id.number
    c.args.branch.now.set c.leaf.result c.leaf.ensures
