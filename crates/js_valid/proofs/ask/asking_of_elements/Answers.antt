use Rattle.std.proofs.Common.{◌≡◌, ℕ, [], length, get_or, refl, sym, ap, ◌∙◌, arith}
use Rattle.draft06.specs.EntryValidity.{form_at}
use Rattle.js_schema.specs.View.{form_view}
use Rattle.js_schema.specs.SchemaView.{schema_view}
use Rattle.js_valid.specs.Parts.{of_element}
use Rattle.js_valid.proofs.PlaceLaws.{others-added, within-added}
use Rattle.js_valid.proofs.PlanLaws.{form_at-get}
use Rattle.js_valid.proofs.RequestLaws.{owner_below}
use Rattle.js_valid.proofs.ask.asking_of_elements.Goals as goal

pub loop-i-preserved : goal.loop-i-preserved
loop-i-preserved c =
    let es = schema_view c.args.schema.now in
    let owners = c.args.owners.now in
    let form = form_at-get es (get_or owners c.loop-i.i 0) (form_view c.form.result.now)
    (owner_below _ owners c.loop-i.i c.requires c.loop-i-test.true) c.form.ensures in
    record {
      within = within-added c.asks_elements.result (length owners) c.loop-i.i c.loop-i.places.items
          c.add_place.new.places.items (c.in_ok-add_place.ensures refl) c.loop-i-test.true c.loop-i.invariant.within;
      others = others-added (λ j. (k : ℕ) → of_element (form_at es (get_or owners j 0)) k ≡ [])
          c.asks_elements.result c.loop-i.i c.loop-i.places.items c.add_place.new.places.items
          (c.in_ok-add_place.ensures refl)
          (λ no k. ap (λ f. of_element f k) (sym form) ∙ c.asks_elements.ensures no k)
          c.loop-i.invariant.others;
    }

pub returns-clause-others : goal.returns-clause-others
returns-clause-others c k i less none =
    c.loop-i.invariant.others i (omega (arith, less, c.loop-i-test.false)) none k
