use Rattle.std.proofs.Common.{rules, get_or, arith}
use Rattle.js_schema.specs.View.{form_view}
use Rattle.js_schema.specs.SchemaView.{schema_view}
use Rattle.js_valid.specs.Parts.{of_contains}
use Rattle.js_valid.proofs.PlanLaws.{form_at-get}
use Rattle.js_valid.proofs.RequestLaws.{owner_next, owner_below, owners_done}
use Rattle.js_valid.proofs.ask.of_contains.Goals as goal

pub loop-i-preserved : goal.loop-i-preserved
loop-i-preserved c =
    let form = form_at-get (schema_view c.args.schema.now) (get_or c.args.owners.now c.loop-i.i 0)
    (form_view c.form.result.now)
    (owner_below _ c.args.owners.now c.loop-i.i c.requires c.loop-i-test.true) c.form.ensures in
    owner_next (schema_view c.args.schema.now) of_contains c.args.owners.now c.loop-i.i
    (form_view c.form.result.now) _ _ _ _ c.loop-i-test.true form (search rules) c.loop-i.invariant

pub returns : goal.returns
returns c =
    owners_done (schema_view c.args.schema.now) of_contains c.args.owners.now c.loop-i.i _ _
    (omega (arith, c.loop-i-test.false)) c.loop-i.invariant
