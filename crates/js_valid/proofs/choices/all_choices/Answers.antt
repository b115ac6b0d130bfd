use Rattle.std.proofs.Common.{◌<◌, length, sym, subst, arith}
use Rattle.draft06.specs.EntryValidity.{form_at}
use Rattle.js_schema.specs.SchemaView.{schema_view}
use Rattle.js_schema.specs.View.{form_view}
use Rattle.js_valid.specs.Choices.{AreChoices, choices_at}
use Rattle.js_valid.proofs.ChoicesLaws.{choices_more}
use Rattle.js_valid.proofs.PlanLaws.{form_at-get}
use Rattle.js_valid.proofs.choices.all_choices.Goals as goal

pub loop-entry-preserved : goal.loop-entry-preserved
loop-entry-preserved c =
    let es = schema_view c.args.schema.now in
    let vs = c.loop-entry.choices.items in
    let v = c.in_ok-choices_of.field-0 in
    let long = c.loop-entry.invariant.0 in
    let more = c.in_ok-push.ensures.len in
    let less : c.loop-entry.entry < length es = omega (arith, c.loop-entry-test.true, c.len-entry-end.ensures.value) in
    let form = form_at-get es c.loop-entry.entry (form_view c.form.result.now) less c.form.ensures in
    let made : AreChoices (form_at es (length vs)) v.items =
    subst (λ k. AreChoices (form_at es k) v.items) (sym long)
    (subst (λ f. AreChoices f v.items) form c.in_ok-choices_of.ensures) in (
      omega (arith, more, long),
      (λ e l. subst (λ ws. AreChoices (form_at es e) (choices_at ws e)) (sym c.in_ok-push.ensures.items)
          (choices_more es vs v c.loop-entry.invariant.1 made e (omega (arith, l, more)))),
    )
