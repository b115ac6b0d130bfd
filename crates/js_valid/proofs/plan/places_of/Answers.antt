use Rattle.std.proofs.Common.{◌∙◌, arith}
use Rattle.js_valid.proofs.PendingLaws.{places-more}
use Rattle.js_valid.proofs.plan.places_of.Goals as goal

pub put-requires : goal.put-requires
put-requires c =
    let within = c.requires c.loop-place.place c.loop-place-test.true in
    omega (arith, within, c.loop-place.invariant.len)

pub loop-place-preserved : goal.loop-place-preserved
loop-place-preserved c = record {
  len = c.put.ensures.len ∙ c.loop-place.invariant.len;
  stand = places-more c.args.order.now c.loop-place.places.items c.put.new.places.items c.loop-place.place
      c.loop-place-test.true c.put.ensures.value c.loop-place.invariant.stand;
}

pub returns : goal.returns
returns c k l = c.loop-place.invariant.stand k (omega (arith, l, c.loop-place-test.false))
