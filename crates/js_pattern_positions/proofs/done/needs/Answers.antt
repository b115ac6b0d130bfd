use Rattle.js_pattern.specs.View.{view}
use Rattle.js_pattern_positions.proofs.DoneLemmas.{needs_is}
use Rattle.js_pattern_positions.proofs.done.needs.Goals as goal

pub returns-clause-needs : goal.returns-clause-needs
returns-clause-needs c =
    needs_is (view c.args.tree.now) c.args.from c.read_all.new.read.flags c.tree_ends.result c.read_all.ensures.flags
    c.tree_ends.ensures
