use Rattle.std.proofs.Common.{ap, ◌∙◌}
use Rattle.js_doc.specs.View.{view}
use Rattle.js_schema.specs.View.{form_view}
use Rattle.js_schema.specs.SchemaView.{schema_view}
use Rattle.js_valid.specs.Parts.{flag}
use Rattle.js_valid.specs.Standing.{place_asks}
use Rattle.js_valid.proofs.PlanLaws.{form_at-get}
use Rattle.js_valid.proofs.settle.own_in_place.Goals as goal

pub returns : goal.returns
returns c =
    let form = form_at-get (schema_view c.args.schema.now) c.args.entry (form_view c.form.result.now) c.requires
    c.form.ensures in
    c.meets_in_place.ensures ∙ ap (λ f. place_asks (flag c.args.held.now) f (view c.args.doc.now)) form
