-- No alternative is left exactly where no truth value is.
use Rattle.std.proofs.Common.{ap, ◌∙◌}
use Rattle.verdicts.specs.Leaves.{has_no_truth}
use Rattle.js_expansion.specs.AlternativeView.{alternative_view}
use Rattle.js_check_trees.proofs.ScalarLaws.{no-truth}
use Rattle.js_check_trees.proofs.scalars.has_no_truth.Goals as goal

pub returns : goal.returns
returns c =
    let T = c.args.core.now.positions in
    no-truth alternative_view c.as_slice.result.now T c.branch-branch.result.set _ c.in_ok-leaf.leaf.alternatives
    c.is_empty.result c.in_ok-leaf.ensures c.as_slice.ensures c.is_empty.ensures
    ∙ ap (has_no_truth T) c.branch-branch.ensures
