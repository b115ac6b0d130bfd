-- The set is of the table, as its members are.
use Rattle.std.proofs.Common.{ap, ◌∙◌}
use Rattle.js_algebra.specs.View.{are_in_table}
use Rattle.js_check_trees.proofs.StepLaws.{set_in_table}
use Rattle.js_check_trees.proofs.steps.count_step.Goals as goal

pub crossed-requires : goal.crossed-requires
crossed-requires c =
    ap (are_in_table c.args.core.now.positions) (c.as_slice.ensures ∙ c.in_ok-members.ensures)
    ∙ set_in_table c.args.core.now.positions c.args.set.now c.requires.in_table
