use Rattle.std.proofs.Common.{sym, ap, subst, ◌∙◌, [], arith}
use Rattle.draft06_laws.proofs.EntryLaws.{form_at-past}
use Rattle.js_doc.specs.View.{view}
use Rattle.js_schema.specs.View.{form_view}
use Rattle.js_match.specs.Matching.{matches}
use Rattle.js_match.proofs.WalkLaws as W
use Rattle.js_valid.specs.Choices.{AreChoices}
use Rattle.js_valid.specs.Parts.{flag, own}
use Rattle.js_valid.specs.Plan.{table_of}
use Rattle.js_valid.proofs.PlanLaws.{form_at-get}
use Rattle.js_valid.proofs.scalar.is_own_met.Goals as goal

pub returns-then-entry-len : goal.returns-then-entry-len
returns-then-entry-len c =
    sym (ap (λ f. own matches (flag []) f (view c.args.doc.now)) (form_at-past (table_of c.args.validator.now)
    c.args.entry (omega (arith, c.len.ensures.value, c.if-entry-len.true))))

pub meets_own-requires : goal.meets_own-requires
meets_own-requires c =
    let form = form_at-get (table_of c.args.validator.now) c.args.entry (form_view c.form.result.now)
    (omega (arith, c.len.ensures.value, c.if-entry-len.false)) c.form.ensures in
    subst (λ f. AreChoices f c.choices-choices.result.now) (sym form) c.choices-choices.ensures

pub returns : goal.returns
returns c =
    let form = form_at-get (table_of c.args.validator.now) c.args.entry (form_view c.form.result.now)
    (omega (arith, c.len.ensures.value, c.if-entry-len.false)) c.form.ensures in
    W.ok_then c.meets_own.result _ _ (λ b e. e ∙ ap (λ f. own matches (flag []) f (view c.args.doc.now)) form)
    c.meets_own.ensures
