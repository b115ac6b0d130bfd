use Rattle.std.proofs.Common.{sym, ap, subst, ◌∙◌}
use Rattle.std.proofs.lemmas.Result.{IfOk-weaker}
use Rattle.js_schema.specs.View.{form_view}
use Rattle.js_match.specs.Matching.{matches}
use Rattle.js_valid.specs.Choices.{AreChoices}
use Rattle.js_valid.specs.PartTables.{document_of}
use Rattle.js_valid.specs.Parts.{flag, own}
use Rattle.js_valid.proofs.PlanLaws.{form_at-get}
use Rattle.js_valid.specs.Plan.{table_of}
use Rattle.js_valid.proofs.validator.Validator.own_at.Goals as goal

pub meets_own_part-requires-clause-choices : goal.meets_own_part-requires-clause-choices
meets_own_part-requires-clause-choices c =
    let form = form_at-get (table_of c.args.self.now) c.args.entry (form_view c.form.result.now) c.requires.entry
    c.form.ensures in
    subst (λ f. AreChoices f c.choices-choices.result.now) (sym form) c.choices-choices.ensures

pub returns : goal.returns
returns c =
    let form = form_at-get (table_of c.args.self.now) c.args.entry (form_view c.form.result.now) c.requires.entry
    c.form.ensures in
    IfOk-weaker c.meets_own_part.result _ _
    (λ b e. e ∙ ap (λ f. own matches (flag c.args.table.now) f (document_of c.args.part.now)) form)
    c.meets_own_part.ensures
