use Rattle.std.proofs.Common.{rules, ap}
use Rattle.js_schema.specs.View.{form_view}
use Rattle.js_schema.specs.SchemaView.{schema_view}
use Rattle.js_valid.specs.Requests.{contained}
use Rattle.js_valid.proofs.PlanLaws.{form_at-get}
use Rattle.js_valid.proofs.decide.is_contained.Goals as goal

pub returns-in-None : goal.returns-in-None
returns-in-None c =
    let form = form_at-get (schema_view c.args.schema.now) c.args.owner (form_view
    c.form.result.now) c.requires c.form.ensures in
    let held = ap contained form in search (rules, held)

pub returns-in-Some : goal.returns-in-Some
returns-in-Some c =
    let form = form_at-get (schema_view c.args.schema.now) c.args.owner (form_view
    c.form.result.now) c.requires c.form.ensures in
    let held = ap contained form in search (rules, held)
