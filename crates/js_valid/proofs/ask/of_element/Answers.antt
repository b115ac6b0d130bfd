use Rattle.std.proofs.Common.{rules, get_or, arith}
use Rattle.js_schema.specs.View.{form_view}
use Rattle.js_schema.specs.SchemaView.{schema_view}
use Rattle.js_valid.specs.Parts.{of_element}
use Rattle.js_valid.proofs.PlaceLaws.{place_next, places_done}
use Rattle.js_valid.proofs.PlanLaws.{form_at-get}
use Rattle.js_valid.proofs.RequestLaws.{owner_below}
use Rattle.js_valid.proofs.ask.of_element.Goals as goal

pub loop-i-preserved : goal.loop-i-preserved
loop-i-preserved c =
    let i = get_or c.args.asking.now c.loop-i.i-index 0 in
    let within = c.requires.within c.loop-i.i-index c.loop-i-test.true in
    let form = form_at-get (schema_view c.args.schema.now) (get_or c.args.owners.now i 0) (form_view c.form.result.now)
    (owner_below _ c.args.owners.now i c.requires.owners within) c.form.ensures in
    place_next (schema_view c.args.schema.now) (λ f. of_element f c.args.place) c.args.owners.now
    c.args.asking.now c.loop-i.i-index (form_view c.form.result.now) _ _ _ _ c.loop-i-test.true form
    (search rules) c.loop-i.invariant

pub returns : goal.returns
returns c =
    places_done (schema_view c.args.schema.now) (λ f. of_element f c.args.place) c.args.owners.now c.args.asking.now
    c.loop-i.i-index _ _ (omega (arith, c.loop-i-test.false)) c.loop-i.invariant
