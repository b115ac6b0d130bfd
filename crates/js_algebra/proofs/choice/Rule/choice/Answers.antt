-- A number of a rule is that of one of its choices.
use Rattle.std.proofs.Common.{◌<◌, length, get_or, [], ap, sym, ◌∙◌, arith}
use Rattle.goals.specs.Tree.{choice_list}
use Rattle.js_algebra.specs.View.{places}
use Rattle.js_algebra.specs.Rules.{rule_view}
use Rattle.js_algebra.proofs.Choosing.{length-one_plus, length-places, length-apart, apart-at, one_plus-at, length-not_one}
use Rattle.js_algebra.proofs.choice.Rule.choice.Goals as goal

pub one-requires : goal.one-requires
one-requires c =
    omega (
      arith,
      c.requires,
      ap (λ r. length (choice_list (rule_view r))) c.in-Apart.is,
      length-apart c.in-Apart.plus c.in-Apart.ps.now,
    )

pub only-requires : goal.only-requires
only-requires c =
    omega (
      arith,
      c.requires,
      ap (λ r. length (choice_list (rule_view r))) c.in-ExactlyOne.is,
      length-one_plus (places c.in-ExactlyOne.ps.now),
      length-places c.in-ExactlyOne.ps.now,
    )

pub pair-requires : goal.pair-requires
pair-requires c =
    omega (
      arith,
      c.requires,
      ap (λ r. length (choice_list (rule_view r))) c.in-NotExactlyOne.is,
      length-not_one c.in-NotExactlyOne.ps.now,
      c.if-index-eq0.false,
    )

pub returns-in-Apart : goal.returns-in-Apart
returns-in-Apart c =
    let l : c.args.index < length c.in-Apart.ps.now =
    omega (
      arith,
      c.requires,
      ap (λ r. length (choice_list (rule_view r))) c.in-Apart.is,
      length-apart c.in-Apart.plus c.in-Apart.ps.now,
    ) in
    c.one.ensures
    ∙ sym (ap (λ r. get_or (choice_list (rule_view r)) c.args.index []) c.in-Apart.is
    ∙ apart-at c.in-Apart.plus c.in-Apart.ps.now c.args.index l)

pub returns-in-ExactlyOne : goal.returns-in-ExactlyOne
returns-in-ExactlyOne c =
    let l : c.args.index < length (places c.in-ExactlyOne.ps.now) =
    omega (
      arith,
      c.requires,
      ap (λ r. length (choice_list (rule_view r))) c.in-ExactlyOne.is,
      length-one_plus (places c.in-ExactlyOne.ps.now),
    ) in
    c.only.ensures
    ∙ sym (ap (λ r. get_or (choice_list (rule_view r)) c.args.index []) c.in-ExactlyOne.is
    ∙ one_plus-at (places c.in-ExactlyOne.ps.now) c.args.index l)
