use Rattle.std.proofs.Common.{◌≡◌, IfOk, subst}
use Rattle.js_algebra.specs.View.{kind_view, signed_view}
use Rattle.js_algebra.proofs.Meanings.{choices-meaning}
use Rattle.js_algebra.proofs.rules.rule_choices.Goals as goal

pub returns-clause-meaning : goal.returns-clause-meaning
returns-clause-meaning c =
    choices-meaning c.args.core.now.positions c.args.core.now.ranks c.len-length.ensures.table
    (signed_view c.args.x) c.requires
    (kind_view c.args.kind) c.listed.result (subst (λ cs. IfOk c.listed.result (λ o. o ≡ cs)) c.rule.ensures.choices
    c.listed.ensures)
