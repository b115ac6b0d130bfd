-- A list of the table that is its own goal.
use Rattle.std.proofs.Common.{◌∙◌, ap, sym, map, Some}
use Rattle.goals.specs.Goal.{form}
use Rattle.verdicts.specs.Verdict.{same_goal}
use Rattle.js_algebra.specs.View.{signed_view, are_in_table}
use Rattle.js_checker.proofs.ListingLemmas.{listed-goal}
use Rattle.js_checker.proofs.listing.goal_of.Goals as goal

pub returns-clause-taken : goal.returns-clause-taken
returns-clause-taken c =
    let T = c.args.core.now.positions in
    let xs = map signed_view c.args.list.now in
    listed-goal T xs c.in-Some.goal (sym c.if-not-are_in_table.ensures)
    (ap (λ h. same_goal xs (Some h)) (sym c.as_slice.ensures.list) ∙ sym c.if-not-same.ensures)
    (sym c.in_ok-goal.ensures.goal ∙ c.in-Some.is)
