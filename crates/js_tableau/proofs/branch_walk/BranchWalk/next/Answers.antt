-- The set of a path is a rising list in the table.
use Rattle.std.proofs.Common.{[], ap, ◌∙◌, refl}
use Rattle.std.proofs.lemmas.Bool.{and_from}
use Rattle.goals.specs.Signed.{is_rising}
use Rattle.js_algebra.specs.View.{is_in_table, are_in_table}
use Rattle.js_tableau.proofs.branch_walk.BranchWalk.next.Goals as goal
use Rattle.goal_laws.proofs.Signs.{is_rising-add_all, every-add_all}

pub returns-in-Saturated-clause-in_table : goal.returns-in-Saturated-clause-in_table
returns-in-Saturated-clause-in_table c =
    let xs = c.step.new.self.tree.walk.trail in
    ap (are_in_table c.args.core.now.positions) c.in_ok-set.ensures
    ∙ every-add_all (is_in_table c.args.core.now.positions) xs []
    ∙ and_from _ _ c.in_ok-step.ensures.walk.tree.stands.in_table refl

pub returns-in-Saturated-clause-rising : goal.returns-in-Saturated-clause-rising
returns-in-Saturated-clause-rising c =
    ap is_rising c.in_ok-set.ensures ∙ is_rising-add_all c.step.new.self.tree.walk.trail [] refl
