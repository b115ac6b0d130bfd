-- A document beside a part: kind by kind, and elements and members one after another.
use Rattle.std.proofs.Common.{◌≡◌, ℕ, List, length, map, get_or, Ordering, sym, ap, ◌∙◌, arith}
use Rattle.documents.specs.Document.{Document, items_of, members_of}
use Rattle.shared_documents.specs.Part.{named, Part}
use Rattle.shared_documents.specs.Unshared.{built, unshared}
use Rattle.shared_documents.proofs.Laws.{unshared-built}
use Rattle.js_doc.specs.declared.document.Doc.{Doc}
use Rattle.js_doc.specs.declared.parts.PartId.{PartId}
use Rattle.js_doc.specs.declared.parts.PartMember.{PartMember}
use Rattle.js_doc.specs.declared.rising.Named.{Named}
use Rattle.js_doc.specs.PartMembers.{number_of}
use Rattle.js_doc.specs.PartMembers as M
use Rattle.js_doc.specs.PartView.{part_view}
use Rattle.js_doc.specs.View.{view, list_view, map_view, member_view}
use Rattle.js_valid.specs.DocumentOrder.{document_cmp, items_cmp, members_cmp, named_cmp}
use Rattle.js_valid.proofs.DepthLaws.{item-depth, member-depth}
use Rattle.js_valid.proofs.SamePartLaws.{below-more, below-at, item-same, map-twice}
use Rattle.js_valid.proofs.OrderedLists.{differ_cmp, longer_cmp, shorter_cmp, ended_cmp, items_listed, members_listed}
use Rattle.js_valid.proofs.part_comparison.+compare_part.Goals as goal

abbrev document_at : List Part → PartId → Document
document_at ps i = unshared ps i.0

abbrev member_at : List Part → PartMember → List ℕ × Document
member_at ps m = (m.name, unshared ps m.part.0)

abbrev to_part : List Part → Doc → PartId → Ordering
to_part ps x y = document_cmp (view x) (document_at ps y)

abbrev to_member : List Part → Named Doc → PartMember → Ordering
to_member ps x y = named_cmp (member_view x) (member_at ps y)

pub compare_part-compare_built-requires : goal.compare_part-compare_built-requires
compare_part-compare_built-requires t c = (
  omega (arith, c.decreases),
  below-more c.args.id.0 (length c.args.parts.now) (named (part_view c.get.result.now))
      (omega (arith, c.requires)) c.get.ensures.part.below,
)

pub compare_part-returns : goal.compare_part-returns
compare_part-returns t c =
    c.compare_built.ensures
    ∙ ap (document_cmp (view c.args.doc.now)) (ap (built (unshared c.args.parts.now)) c.get.ensures.value
    ∙ sym (unshared-built c.args.parts.now c.args.id.0 c.get.ensures.table c.requires))

pub compare_elements-compare_part-requires : goal.compare_elements-compare_part-requires
compare_elements-compare_part-requires t c = (
  omega (
    arith,
    c.decreases,
    item-depth c.as_slice-docs.result.now c.loop-i.i c.index-docs-i.result (list_view c.args.list.now)
        c.loop-i-test.true c.index-docs-i.is c.as_slice-docs.ensures.view,
  ),
  below-at number_of (length c.args.parts.now) c.loop-i.i c.as_slice-numbers.result.now c.args.ids.now
      (get_or c.as_slice-numbers.result.now c.loop-i.i (record { 0 = 0 })) c.as_slice-numbers.ensures c.requires
      (omega (arith, c.if-i-numbers.false))
      (item-same c.as_slice-numbers.result.now c.loop-i.i _ _ (omega (arith, c.if-i-numbers.false))),
)

-- the elements of both, as they are compared
elements-are : (ps : List Part) (docs : List Doc) (numbers : List PartId) (ids : List ℕ) → map number_of numbers ≡ ids
    → items_cmp (items_of (map view docs)) (items_of (map (unshared ps) ids)) ≡ items_cmp (items_of (map view docs))
    (items_of (map (document_at ps) numbers))
elements-are ps docs numbers ids e =
    ap (λ es. items_cmp (items_of (map view docs)) (items_of es)) (ap (map (unshared ps)) (sym e)
    ∙ map-twice (unshared ps) number_of numbers)

pub compare_elements-returns-then-i-numbers : goal.compare_elements-returns-then-i-numbers
compare_elements-returns-then-i-numbers t c =
    let ps = c.args.parts.now in
    let docs = c.as_slice-docs.result.now in
    let numbers = c.as_slice-numbers.result.now in
    sym (ap (λ ds. items_cmp ds (items_of (map (unshared ps) c.args.ids.now))) (sym c.as_slice-docs.ensures.view)
    ∙ elements-are ps docs numbers c.args.ids.now c.as_slice-numbers.ensures
    ∙ items_listed view (document_at ps) docs numbers ∙ sym c.loop-i.invariant.1
    ∙ longer_cmp (to_part ps) c.loop-i.i docs numbers c.loop-i-test.true (omega (arith, c.if-i-numbers.true)))

pub compare_elements-returns-in_default : goal.compare_elements-returns-in_default
compare_elements-returns-in_default t c =
    let ps = c.args.parts.now in
    let docs = c.as_slice-docs.result.now in
    let numbers = c.as_slice-numbers.result.now in
    let id = get_or numbers c.loop-i.i (record { 0 = 0 }) in
    c.compare_part.ensures
    ∙ sym (ap (λ ds. items_cmp ds (items_of (map (unshared ps) c.args.ids.now))) (sym c.as_slice-docs.ensures.view)
    ∙ elements-are ps docs numbers c.args.ids.now c.as_slice-numbers.ensures
    ∙ items_listed view (document_at ps) docs numbers ∙ sym c.loop-i.invariant.1
    ∙ differ_cmp (to_part ps) c.loop-i.i docs numbers c.index-docs-i.result id c.loop-i-test.true
    (omega (arith, c.if-i-numbers.false)) c.index-docs-i.is
    (item-same numbers c.loop-i.i _ id (omega (arith, c.if-i-numbers.false)))
    (λ e. c.in_default.not-Equal (c.compare_part.ensures ∙ e)))

pub compare_elements-returns-then-docs-numbers : goal.compare_elements-returns-then-docs-numbers
compare_elements-returns-then-docs-numbers t c =
    let ps = c.args.parts.now in
    let docs = c.as_slice-docs.result.now in
    let numbers = c.as_slice-numbers.result.now in
    sym (ap (λ ds. items_cmp ds (items_of (map (unshared ps) c.args.ids.now))) (sym c.as_slice-docs.ensures.view)
    ∙ elements-are ps docs numbers c.args.ids.now c.as_slice-numbers.ensures
    ∙ items_listed view (document_at ps) docs numbers ∙ sym c.loop-i.invariant.1
    ∙ shorter_cmp (to_part ps) c.loop-i.i docs numbers (omega (arith, c.loop-i-test.false))
    (omega (arith, c.loop-i.invariant.0, c.if-docs-numbers.true)))

pub compare_elements-returns : goal.compare_elements-returns
compare_elements-returns t c =
    let ps = c.args.parts.now in
    let docs = c.as_slice-docs.result.now in
    let numbers = c.as_slice-numbers.result.now in
    sym (ap (λ ds. items_cmp ds (items_of (map (unshared ps) c.args.ids.now))) (sym c.as_slice-docs.ensures.view)
    ∙ elements-are ps docs numbers c.args.ids.now c.as_slice-numbers.ensures
    ∙ items_listed view (document_at ps) docs numbers ∙ sym c.loop-i.invariant.1
    ∙ ended_cmp (to_part ps) c.loop-i.i docs numbers (omega (arith, c.loop-i-test.false))
    (omega (arith, c.loop-i-test.false, c.if-docs-numbers.false)))

pub compare_named-compare_member-requires : goal.compare_named-compare_member-requires
compare_named-compare_member-requires t c = (
  omega (
    arith,
    c.decreases,
    member-depth c.as_slice-docs.result.now c.loop-i.i c.index-docs-i.result (map_view c.args.members.now)
        c.loop-i-test.true c.index-docs-i.is c.as_slice-docs.ensures.view,
  ),
  below-at (λ m. m.part.0) (length c.args.parts.now) c.loop-i.i c.as_slice-others.result.now
      (map (λ m. m.1) c.args.named.now) c.index-others-i.result
      (sym (map-twice (λ m. m.1) M.member_view c.as_slice-others.result.now)
      ∙ ap (map (λ m. m.1)) c.as_slice-others.ensures.list) c.requires
      (omega (arith, c.if-i-others.false)) c.index-others-i.is,
)

-- the members of both, as they are compared
members-are : (ps : List Part) (docs : List (Named Doc)) (others : List PartMember) (named : List (List ℕ × ℕ))
    → map M.member_view others ≡ named
    → members_cmp (members_of (map member_view docs)) (members_of (map (λ m. (m.0, unshared ps m.1)) named))
    ≡ members_cmp (members_of (map member_view docs)) (members_of (map (member_at ps) others))
members-are ps docs others named e =
    ap (λ ms. members_cmp (members_of (map member_view docs)) (members_of ms))
    (ap (map (λ m. (m.0, unshared ps m.1))) (sym e)
    ∙ map-twice (λ m. (m.0, unshared ps m.1)) M.member_view others)

pub compare_named-returns-then-i-others : goal.compare_named-returns-then-i-others
compare_named-returns-then-i-others t c =
    let ps = c.args.parts.now in
    let docs = c.as_slice-docs.result.now in
    let others = c.as_slice-others.result.now in
    sym (ap (λ ds. members_cmp ds (members_of (map (λ m. (m.0, unshared ps m.1)) c.args.named.now)))
    (sym c.as_slice-docs.ensures.view)
    ∙ members-are ps docs others c.args.named.now c.as_slice-others.ensures.list
    ∙ members_listed member_view (member_at ps) docs others ∙ sym c.loop-i.invariant.1
    ∙ longer_cmp (to_member ps) c.loop-i.i docs others c.loop-i-test.true (omega (arith, c.if-i-others.true)))

pub compare_named-returns-in_default : goal.compare_named-returns-in_default
compare_named-returns-in_default t c =
    let ps = c.args.parts.now in
    let docs = c.as_slice-docs.result.now in
    let others = c.as_slice-others.result.now in
    c.compare_member.ensures
    ∙ sym (ap (λ ds. members_cmp ds (members_of (map (λ m. (m.0, unshared ps m.1)) c.args.named.now)))
    (sym c.as_slice-docs.ensures.view)
    ∙ members-are ps docs others c.args.named.now c.as_slice-others.ensures.list
    ∙ members_listed member_view (member_at ps) docs others ∙ sym c.loop-i.invariant.1
    ∙ differ_cmp (to_member ps) c.loop-i.i docs others c.index-docs-i.result c.index-others-i.result
    c.loop-i-test.true (omega (arith, c.if-i-others.false)) c.index-docs-i.is c.index-others-i.is
    (λ e. c.in_default.not-Equal (c.compare_member.ensures ∙ e)))

pub compare_named-returns-then-docs-others : goal.compare_named-returns-then-docs-others
compare_named-returns-then-docs-others t c =
    let ps = c.args.parts.now in
    let docs = c.as_slice-docs.result.now in
    let others = c.as_slice-others.result.now in
    sym (ap (λ ds. members_cmp ds (members_of (map (λ m. (m.0, unshared ps m.1)) c.args.named.now)))
    (sym c.as_slice-docs.ensures.view)
    ∙ members-are ps docs others c.args.named.now c.as_slice-others.ensures.list
    ∙ members_listed member_view (member_at ps) docs others ∙ sym c.loop-i.invariant.1
    ∙ shorter_cmp (to_member ps) c.loop-i.i docs others (omega (arith, c.loop-i-test.false))
    (omega (arith, c.loop-i.invariant.0, c.if-docs-others.true)))

pub compare_named-returns : goal.compare_named-returns
compare_named-returns t c =
    let ps = c.args.parts.now in
    let docs = c.as_slice-docs.result.now in
    let others = c.as_slice-others.result.now in
    sym (ap (λ ds. members_cmp ds (members_of (map (λ m. (m.0, unshared ps m.1)) c.args.named.now)))
    (sym c.as_slice-docs.ensures.view)
    ∙ members-are ps docs others c.args.named.now c.as_slice-others.ensures.list
    ∙ members_listed member_view (member_at ps) docs others ∙ sym c.loop-i.invariant.1
    ∙ ended_cmp (to_member ps) c.loop-i.i docs others (omega (arith, c.loop-i-test.false))
    (omega (arith, c.loop-i-test.false, c.if-docs-others.false)))
