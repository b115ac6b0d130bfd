use Rattle.std.proofs.Common.{◌∙◌, ap, sym}
use Rattle.documents.specs.Place.{child_at}
use Rattle.js_doc.specs.JsonView.{view}
use Rattle.js_json.proofs.PlaceLemmas.{value_at-step}
use Rattle.js_json.proofs.place.at_pointer.Goals as goal

pub loop-token-preserved : goal.loop-token-preserved
loop-token-preserved c =
    let here = view c.loop-token.here.now in
    let step = ap (λ t. child_at t here) (sym c.as_text.ensures.text) ∙ sym c.in_ok-here.ensures in
    value_at-step c.tokens-tokens.result.now c.loop-token.token-index c.token-item.result here _
    c.loop-token-test.true c.token-item.is step
    ∙ c.loop-token.invariant
