use Rattle.std.proofs.Common.{chars, arith, sym}
use Rattle.js_json.proofs.PlaceLemmas.{element_got, element_absent}
use Rattle.js_json.proofs.place.element.Goals as goal

pub returns-in_err-element_index : goal.returns-in_err-element_index
returns-in_err-element_index c =
    rw c.from_residual.ensures (sym (element_absent c.as_slice-items.result.now _ (chars c.args.token.now)
    c.as_slice-items.ensures.view
    (λ i is. omega (arith, c.in_err-element_index.ensures i is, c.as_slice-items.type_inv))))

pub returns : goal.returns
returns c =
    element_got c.as_slice-items.result.now _ (chars c.args.token.now) c.in_ok-element_index.field-0 c.get.result
    c.as_slice-items.ensures.view c.in_ok-element_index.ensures c.get.ensures.lookup.1 c.get.ensures.lookup.0
