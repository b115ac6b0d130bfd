use Rattle.std.proofs.Common.{◌<◌, length, map, get_or, ap, sym, ◌∙◌, rules, subst, refl}
use Rattle.js_text.specs.Kept.{measure_at}
use Rattle.js_text.specs.Summed.{measure_view, added, ids_measure}
use Rattle.js_text.proofs.MeasureLemmas.{id_entry, ids-entries-of, id-below, kept-at, summed-more, summed-end}
use Rattle.js_text.proofs.measures.measure_ids.Goals as goal
use Rattle.std.proofs.lemmas.List.{get_or_default}

pub bounds-below-index : goal.bounds-below-index
bounds-below-index c =
    subst (λ i. i < length c.args.below.now) (sym c.index.ensures)
    (id-below c.as_slice-numbers.result.now c.args.ids.now c.loop-id.id-index (length c.args.below.now)
    (record { 0 = 0 }) c.as_slice-numbers.ensures c.requires c.loop-id-test.true)

pub offset_bounds-below-index : goal.offset_bounds-below-index
offset_bounds-below-index c =
    let within : c.index.result < length c.args.below.now =
    subst (λ i. i < length c.args.below.now) (sym c.index.ensures)
    (id-below c.as_slice-numbers.result.now c.args.ids.now c.loop-id.id-index (length c.args.below.now)
    (record { 0 = 0 }) c.as_slice-numbers.ensures c.requires c.loop-id-test.true) in
    search rules

pub loop-id-preserved : goal.loop-id-preserved
loop-id-preserved c =
    let kept = map measure_view c.args.below.now in
    let ids = c.as_slice-numbers.result.now in
    let id = get_or ids c.loop-id.id-index (record { 0 = 0 }) in
    let within : c.index.result < length c.args.below.now =
    subst (λ i. i < length c.args.below.now) (sym c.index.ensures)
    (id-below ids c.args.ids.now c.loop-id.id-index (length c.args.below.now) (record { 0 = 0 })
    c.as_slice-numbers.ensures c.requires c.loop-id-test.true) in
    summed-more (id_entry kept) ids c.loop-id.id-index id (measure_view c.loop-id.sum)
    (measure_view c.with-sum.result) _
    c.loop-id-test.true (get_or_default ids c.loop-id.id-index (record { 0 = 0 }) id c.loop-id-test.true)
    (c.with-sum.ensures
    ∙ ap (added (measure_view c.loop-id.sum) 0)
    (kept-at c.args.below.now c.index.result _ within ∙ ap (measure_at kept) c.index.ensures))
    c.loop-id.invariant

pub returns : goal.returns
returns c =
    let kept = map measure_view c.args.below.now in
    summed-end (id_entry kept) c.as_slice-numbers.result.now c.loop-id.id-index (measure_view c.loop-id.sum)
    (measure_view c.closed.result) _ c.loop-id-test.false refl c.closed.ensures c.loop-id.invariant
    ∙ ids-entries-of kept c.as_slice-numbers.result.now ∙ ap (ids_measure (measure_at kept)) c.as_slice-numbers.ensures
