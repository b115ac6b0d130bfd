-- The number of a rule, as the definition of verdicts has it.
use Rattle.std.specs.Prelude.{ℕ}
use Rattle.verdicts.specs.Rules.{not_a_line, too_long, no_end, out_of_place, no_goal, root_not_listed, other_entry, other_kind, no_choices, no_clash, not_wrong, other_leaf, bounds_meet, truth_left, number_left, no_rows, no_row, wrong_target, wrong_least, wanted_left, wrong_bound, no_demand, not_refuted, plan_left}
use Rattle.js_rules.specs.declared.rule.Rule.{Rule}
use Rattle.js_rules.specs.declared.rule.Rule.TheVariants as R

abbrev pub rule_view : Rule → ℕ
rule_view R.NotALine = not_a_line
rule_view R.TooLong = too_long
rule_view R.NoEnd = no_end
rule_view R.OutOfPlace = out_of_place
rule_view R.NoGoal = no_goal
rule_view R.RootNotListed = root_not_listed
rule_view R.OtherEntry = other_entry
rule_view R.OtherKind = other_kind
rule_view R.NoChoices = no_choices
rule_view R.NoClash = no_clash
rule_view R.NotWrong = not_wrong
rule_view R.OtherLeaf = other_leaf
rule_view R.BoundsMeet = bounds_meet
rule_view R.TruthLeft = truth_left
rule_view R.NumberLeft = number_left
rule_view R.NoRows = no_rows
rule_view R.NoRow = no_row
rule_view R.WrongTarget = wrong_target
rule_view R.WrongLeast = wrong_least
rule_view R.WantedLeft = wanted_left
rule_view R.WrongBound = wrong_bound
rule_view R.NoDemand = no_demand
rule_view R.NotRefuted = not_refuted
rule_view R.PlanLeft = plan_left
