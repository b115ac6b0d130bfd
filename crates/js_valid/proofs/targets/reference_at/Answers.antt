use Rattle.std.proofs.Common.{sym, ap, ◌∙◌, arith}
use Rattle.draft06_laws.proofs.EntryLaws.{form_at-past}
use Rattle.js_schema.specs.View.{form_view}
use Rattle.js_schema.specs.SchemaView.{schema_view}
use Rattle.js_valid.specs.Plain.{reference}
use Rattle.js_valid.proofs.PlanLaws.{form_at-get}
use Rattle.js_valid.proofs.targets.reference_at.Goals as goal

pub returns-then-entry-len : goal.returns-then-entry-len
returns-then-entry-len c =
    sym (ap reference (form_at-past (schema_view c.args.schema.now) c.args.entry (omega
    (arith, c.len.ensures.value, c.if-entry-len.true))))

pub returns : goal.returns
returns c =
    c.reference_of.ensures
    ∙ ap reference (form_at-get (schema_view c.args.schema.now) c.args.entry (form_view c.form.result.now)
    (omega (arith, c.len.ensures.value, c.if-entry-len.false)) c.form.ensures)
