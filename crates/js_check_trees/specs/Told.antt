-- What a step leaves of a set.
use Rattle.std.specs.Prelude.{ℕ, List, [], Bool, true, Result, Ok, Err}
use Rattle.documents.specs.Kind.{Kind}
use Rattle.positions.specs.Position.{Position}
use Rattle.goals.specs.Signed as G
use Rattle.verdicts.specs.Duties.{Duty}
use Rattle.js_algebra.specs.View.{signed_view, is_in_table}
use Rattle.js_rules.specs.RuleView.{rule_view}
use Rattle.js_check_trees.specs.declared.step.Step.{Step}
use Rattle.js_check_trees.specs.declared.step.Step.TheVariants as V
use Rattle.js_check_trees.specs.Choosing.{choice_duties, choices_of}

abbrev pub told : List Position → Kind → List G.Signed → Step → Result (List Duty) ℕ
told T t S V.Ends = Ok []
told T t S (V.Splits x) = Ok (choice_duties t S (choices_of T t (signed_view x)))
told T t S (V.Breaks r) = Err (rule_view r)

-- what is split is of the table
abbrev pub splits_in_table : List Position → Step → Bool
splits_in_table T (V.Splits x) = is_in_table T (signed_view x)
splits_in_table T _ = true
