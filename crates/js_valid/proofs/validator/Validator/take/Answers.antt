use Rattle.std.proofs.Common.{◌≡◌, ◌||◌, true, false, refl, sym, ap, subst, ◌∙◌}
use Rattle.schemas.specs.Schema.{in_place}
use Rattle.draft06.specs.EntryValidity.{form_at}
use Rattle.js_doc.specs.View.{view}
use Rattle.js_schema.specs.View.{form_view}
use Rattle.js_match.specs.Matching.{matches}
use Rattle.js_match.specs.Places.{is_at}
use Rattle.js_valid.specs.AskedEntries.{placed}
use Rattle.js_valid.specs.Choices.{AreChoices}
use Rattle.js_valid.specs.Standing.{stands}
use Rattle.js_valid.proofs.AskedLaws.{takes-true, takes-false}
use Rattle.js_valid.proofs.PlanLaws.{form_at-get}
use Rattle.js_valid.specs.Plan.{table_of}
use Rattle.js_valid.proofs.validator.Validator.take.Goals as goal

pub stands-requires : goal.stands-requires
stands-requires c =
    let form = form_at-get (table_of c.args.self.now) c.args.entry (form_view c.form-form.result.now)
    c.requires.entry c.form-form.ensures in
    subst (λ f. AreChoices f c.choices.result.now) (sym form) c.choices.ensures

pub returns-then-branch : goal.returns-then-branch
returns-then-branch c h =
    let form = form_at-get (table_of c.args.self.now) c.args.entry (form_view c.form-form.result.now)
    c.requires.entry c.form-form.ensures in
    let is : stands matches (form_at (table_of c.args.self.now) c.args.entry) (view c.args.doc.now) ≡ true =
    sym (c.in_ok-stands.ensures ∙ ap (λ f. stands matches f (view c.args.doc.now)) form) ∙ c.if-branch.true in
    takes-true _ c.args.entry _ _ _ _ _ is c.in_ok-push.ensures.items refl (λ k.
    c.add_in_place.ensures h k
    ∙ ap (λ f. is_at k c.args.pending.now || is_at k (placed c.args.self.now.plan.now.places.items (in_place f))) form)

pub returns : goal.returns
returns c h =
    let form = form_at-get (table_of c.args.self.now) c.args.entry (form_view c.form-form.result.now)
    c.requires.entry c.form-form.ensures in
    let is : stands matches (form_at (table_of c.args.self.now) c.args.entry) (view c.args.doc.now) ≡ false =
    sym (c.in_ok-stands.ensures ∙ ap (λ f. stands matches f (view c.args.doc.now)) form) ∙ c.if-branch.false in
    takes-false _ c.args.entry _ _ _ _ _ is refl c.in_ok-push-2.ensures.items refl
