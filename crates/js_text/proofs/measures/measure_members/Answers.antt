use Rattle.std.proofs.Common.{◌≡◌, ◌<◌, ◌+◌, ◌++◌, length, map, ap, ap₂, sym, ◌∙◌, rules, subst, refl}
use Rattle.std.specs.String.{string_bytes}
use Rattle.document_texts.specs.Scalars.{string_text}
use Rattle.js_text.specs.Kept.{measure_at}
use Rattle.js_text.specs.Summed.{measure_view, added, members_measure}
use Rattle.js_text.proofs.MeasureLemmas.{member_entry, members-entries-of, member-below, kept-at, summed-more, summed-end}
use Rattle.js_text.proofs.measures.measure_members.Goals as goal

pub bounds-below-index : goal.bounds-below-index
bounds-below-index c =
    subst (λ i. i < length c.args.below.now) (sym c.index.ensures)
    (member-below c.as_slice-named.result.now c.args.members.now c.loop-member.member-index (length c.args.below.now)
    c.member-item.result c.as_slice-named.ensures.list c.requires c.loop-member-test.true c.member-item.is)

pub offset_bounds-below-index : goal.offset_bounds-below-index
offset_bounds-below-index c =
    let within : c.index.result < length c.args.below.now =
    subst (λ i. i < length c.args.below.now) (sym c.index.ensures)
    (member-below c.as_slice-named.result.now c.args.members.now c.loop-member.member-index (length c.args.below.now)
    c.member-item.result c.as_slice-named.ensures.list c.requires c.loop-member-test.true c.member-item.is) in
    search rules

pub loop-member-preserved : goal.loop-member-preserved
loop-member-preserved c =
    let kept = map measure_view c.args.below.now in
    let within : c.index.result < length c.args.below.now =
    subst (λ i. i < length c.args.below.now) (sym c.index.ensures)
    (member-below c.as_slice-named.result.now c.args.members.now c.loop-member.member-index (length c.args.below.now)
    c.member-item.result c.as_slice-named.ensures.list c.requires c.loop-member-test.true c.member-item.is) in
    let size : c.len.result ≡ length (string_bytes c.push_string.new.out) = search rules in
    let name : string_bytes c.push_string.new.out ≡ string_text c.member-item.result.name =
    c.in_ok-push_string.ensures ∙ ap (λ ys. ys ++ string_text c.member-item.result.name) c.new-name.ensures.bytes in
    summed-more (member_entry kept) c.as_slice-named.result.now c.loop-member.member-index c.member-item.result
    (measure_view c.loop-member.sum) (measure_view c.with-sum.result) _ c.loop-member-test.true c.member-item.is
    (c.with-sum.ensures
    ∙ ap₂ (λ n m. added (measure_view c.loop-member.sum) n m) (ap (λ n. n + 1) (size ∙ ap length name))
    (kept-at c.args.below.now c.index.result _ within ∙ ap (measure_at kept) c.index.ensures))
    c.loop-member.invariant

pub returns : goal.returns
returns c =
    let kept = map measure_view c.args.below.now in
    summed-end (member_entry kept) c.as_slice-named.result.now c.loop-member.member-index
    (measure_view c.loop-member.sum) (measure_view c.closed.result) _ c.loop-member-test.false refl c.closed.ensures
    c.loop-member.invariant
    ∙ members-entries-of kept c.as_slice-named.result.now
    ∙ ap (members_measure (measure_at kept)) c.as_slice-named.ensures.list
