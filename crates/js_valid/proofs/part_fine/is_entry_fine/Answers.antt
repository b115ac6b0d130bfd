use Rattle.std.proofs.Common.{◌≡◌, ◌&&◌, true, sym, ap, ◌∙◌}
use Rattle.std.proofs.lemmas.Result.{IfOk-weaker}
use Rattle.documents.specs.Tests.{every}
use Rattle.draft06.specs.EntryValidity.{form_at}
use Rattle.schemas.specs.Schema.{form_in_range}
use Rattle.js_schema.specs.SchemaView.{schema_view}
use Rattle.js_schema.specs.View.{form_view}
use Rattle.js_valid.specs.Parts.{flag}
use Rattle.js_valid.proofs.PartMemberLaws.{value_met}
use Rattle.js_valid.proofs.PlanLaws.{form_at-get}
use Rattle.js_valid.proofs.SearchLaws.{form-fine}
use Rattle.js_valid.proofs.part_fine.is_entry_fine.Goals as goal

pub are_members_met-requires-clause-range : goal.are_members_met-requires-clause-range
are_members_met-requires-clause-range c =
    let es = schema_view c.args.schema.now in
    ap form_in_range (form_at-get es c.args.entry (form_view c.form.result.now) c.requires.entry c.form.ensures)
    ∙ form-fine es c.args.entry c.requires.table c.requires.entry

pub returns : goal.returns
returns c =
    let es = schema_view c.args.schema.now in
    let form = form_at-get es c.args.entry (form_view c.form.result.now) c.requires.entry c.form.ensures in
    let named : flag c.args.names.now c.args.entry ≡ true = sym c.holds.ensures ∙ c.if-not-holds.false in
    IfOk-weaker c.are_members_met.result _ _ (λ b asked ps known. asked es ps known
    ∙ ap (λ f. every (value_met es ps f) c.args.named.now) form
    ∙ sym (ap (λ a. a && every (value_met es ps (form_at es c.args.entry)) c.args.named.now) named))
    c.are_members_met.ensures
