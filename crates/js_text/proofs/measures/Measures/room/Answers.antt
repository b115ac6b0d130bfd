use Rattle.std.proofs.Common.{[], ◌∷◌, length, map, ap, ap₂, ◌∙◌, arith, length-append}
use Rattle.std.proofs.lemmas.List.{map-append}
use Rattle.std.proofs.Math.ListN.{length-map}
use Rattle.js_text.specs.Kept.{measure_at}
use Rattle.js_text.specs.Summed.{measure_view, part_measure}
use Rattle.js_text.proofs.RoomLemmas.{measures-next, viewed-at, within, names-kept}
use Rattle.js_text.proofs.measures.Measures.room.Goals as goal

pub measure_part-requires : goal.measure_part-requires
measure_part-requires c =
    names-kept c.as_slice-part-items.result.now c.args.parts.now c.loop-part.part-index (length c.as_slice.result.now)
    c.part-item.result c.as_slice-part-items.ensures.table c.as_slice-part-items.ensures.list c.loop-part-test.true
    c.part-item.is (ap length c.as_slice.ensures.value ∙ c.loop-part.invariant.count)

pub loop-part-preserved : goal.loop-part-preserved
loop-part-preserved c =
    let items = c.as_slice-part-items.result.now in
    let ps = c.args.parts.now in
    let k = c.loop-part.part-index in
    let kept = map measure_view c.loop-part.of_parts.items in
    let m = measure_view c.in_ok-measure.measure in
    record {
      count = ap length c.in_ok-push.ensures.items
          ∙ omega (
            arith,
            length-append c.loop-part.of_parts.items (c.in_ok-measure.measure ∷ []),
            c.loop-part.invariant.count,
          );
      each = measures-next ps k kept (map measure_view c.push.new.self.items) m c.as_slice-part-items.ensures.table
          (within items ps c.as_slice-part-items.ensures.list c.loop-part-test.true)
          (length-map c.loop-part.of_parts.items measure_view ∙ c.loop-part.invariant.count) c.loop-part.invariant.each
          (c.in_ok-measure.ensures
          ∙ ap₂ (λ ms p. part_measure (measure_at (map measure_view ms)) p) c.as_slice.ensures.value
          (viewed-at items ps k c.part-item.result c.as_slice-part-items.ensures.list c.loop-part-test.true
          c.part-item.is))
          (ap (map measure_view) c.in_ok-push.ensures.items
          ∙ map-append measure_view c.loop-part.of_parts.items (c.in_ok-measure.measure ∷ []));
    }
