-- The set is of the table, as its members are.
use Rattle.std.proofs.Common.{ap, ◌∙◌}
use Rattle.std.proofs.lemmas.Result.{IfOk-weaker}
use Rattle.js_algebra.specs.View.{are_in_table}
use Rattle.js_check_trees.proofs.StepLaws.{set_in_table}
use Rattle.js_check_trees.proofs.open_sets.OpenSets.set.Goals as goal

pub returns-clause-in_table : goal.returns-clause-in_table
returns-clause-in_table c =
    let T = c.args.self.now.core.now.positions in
    IfOk-weaker c.to_list.result _ _
    (λ s e. ap (are_in_table T) e ∙ set_in_table T c.args.self.now.set c.args.self.now.in_table) c.to_list.ensures
