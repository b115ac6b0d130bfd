use Rattle.std.proofs.Common.{length, ap, sym, ◌∙◌, arith}
use Rattle.goals.specs.Tree.{choice_list}
use Rattle.js_algebra.specs.Rules.{rule_view}
use Rattle.js_algebra.proofs.Choosing.{length-one_plus, length-places, length-not_one}
use Rattle.js_algebra.proofs.choice.Rule.count.Goals as goal

pub returns-in-ExactlyOne : goal.returns-in-ExactlyOne
returns-in-ExactlyOne c =
    sym (ap (λ r. length (choice_list (rule_view r))) c.in-ExactlyOne.is ∙ length-one_plus _ ∙ length-places _)

pub returns-in-NotExactlyOne : goal.returns-in-NotExactlyOne
returns-in-NotExactlyOne c =
    omega (
      arith,
      c.pairs.ensures,
      ap (λ r. length (choice_list (rule_view r))) c.in-NotExactlyOne.is,
      length-not_one c.in-NotExactlyOne.ps.now,
    )
