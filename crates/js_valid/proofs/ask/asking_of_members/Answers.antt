use Rattle.std.proofs.Common.{◌≡◌, ℕ, List, [], length, get_or, refl, sym, ap, ◌∙◌, arith}
use Rattle.draft06.specs.EntryValidity.{form_at}
use Rattle.js_schema.specs.View.{form_view}
use Rattle.js_schema.specs.SchemaView.{schema_view}
use Rattle.js_match.specs.Matching.{matches}
use Rattle.js_valid.specs.Parts.{of_member}
use Rattle.js_valid.proofs.PlaceLaws.{others-added, within-added}
use Rattle.js_valid.proofs.PlanLaws.{form_at-get}
use Rattle.js_valid.proofs.RequestLaws.{owner_below}
use Rattle.js_valid.proofs.ask.asking_of_members.Goals as goal

pub loop-i-preserved : goal.loop-i-preserved
loop-i-preserved c =
    let es = schema_view c.args.schema.now in
    let owners = c.args.owners.now in
    let form = form_at-get es (get_or owners c.loop-i.i 0) (form_view c.form.result.now)
    (owner_below _ owners c.loop-i.i c.requires c.loop-i-test.true) c.form.ensures in
    record {
      within = within-added c.asks_members.result (length owners) c.loop-i.i c.loop-i.places.items
          c.add_place.new.places.items (c.in_ok-add_place.ensures refl) c.loop-i-test.true c.loop-i.invariant.within;
      others = others-added (λ j. (w : List ℕ) → of_member matches (form_at es (get_or owners j 0)) w ≡ [])
          c.asks_members.result c.loop-i.i c.loop-i.places.items c.add_place.new.places.items
          (c.in_ok-add_place.ensures refl)
          (λ no w. ap (λ f. of_member matches f w) (sym form) ∙ c.asks_members.ensures no w)
          c.loop-i.invariant.others;
    }

pub returns-clause-others : goal.returns-clause-others
returns-clause-others c w i less none =
    c.loop-i.invariant.others i (omega (arith, less, c.loop-i-test.false)) none w
