-- There are no more alternatives than places, and these are below the limit.
use Rattle.std.proofs.Common.{length, map, ap, arith}
use Rattle.std.proofs.lemmas.List.{length-map}
use Rattle.alternatives.specs.Alternative.{places}
use Rattle.js_expansion.specs.AlternativeView.{alternative_view}
use Rattle.js_explore.specs.NumberedView.{numbered_view}
use Rattle.js_explore.proofs.Few.{few_numbered}
use Rattle.js_explore.proofs.explored.Explored.take.Goals as goal

pub invariant_of-push : goal.invariant_of-push
invariant_of-push c =
    let same = ap length c.in_ok-numbered.ensures in
    let all = length-map c.in_ok-numbered.numbered.items numbered_view in
    let few = few_numbered c.mention_all.new.self.goals.keys
    (map alternative_view c.as_slice-alternatives.result.now) in
    let shown = ap places c.as_slice-alternatives.ensures in
    record {
      few = omega (
        arith,
        same,
        all,
        few,
        shown,
        c.places-places.ensures,
        c.if-from-places.false,
        c.from.ensures,
        c.from-2.ensures,
        c.ranges.most_total.fits,
      );
    }
