use Rattle.std.proofs.Common.{arith}
use Rattle.js_expansion.proofs.Sums.{places_in-more}
use Rattle.js_expansion.proofs.lists.AlternativeList.places.Goals as goal

pub loop-alternative-preserved : goal.loop-alternative-preserved
loop-alternative-preserved c =
    let more = places_in-more c.as_slice-alternative-items.result.now c.loop-alternative.alternative-index
    c.alternative-item.result c.loop-alternative-test.true in (
      grind (arith, more, c.loop-alternative.invariant.0, c.alternative-item.is, c.places-sum.ensures.value),
      omega (arith, c.loop-alternative.invariant.1, c.places-sum.ensures.bound),
    )
