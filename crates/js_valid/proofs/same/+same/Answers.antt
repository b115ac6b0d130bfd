-- A document beside a part: kind by kind, and elements and members one after another.
use Rattle.std.proofs.Common.{◌≡◌, ℕ, List, length, map, get_or, sym, ap, ap₂, ◌∙◌, arith}
use Rattle.documents.specs.Document.{Document, items_of, members_of}
use Rattle.documents.specs.Measures.{same_document, same_items, same_members}
use Rattle.shared_documents.specs.Part.{named, Part}
use Rattle.shared_documents.specs.Unshared.{built, unshared}
use Rattle.shared_documents.proofs.Laws.{unshared-built}
use Rattle.js_doc.specs.declared.parts.PartId.{PartId}
use Rattle.js_doc.specs.declared.parts.PartMember.{PartMember}
use Rattle.js_doc.specs.PartMembers.{number_of}
use Rattle.js_doc.specs.PartMembers as M
use Rattle.js_doc.specs.PartView.{part_view}
use Rattle.js_doc.specs.View.{view, list_view, map_view, member_view}
use Rattle.js_valid.proofs.DepthLaws.{item-depth, member-depth}
use Rattle.js_valid.proofs.SamePartLaws.{below-more, below-at, item-same, map-twice, items-sizes, items-other, items-end, members-sizes, members-other, members-end}
use Rattle.js_valid.proofs.same.+same.Goals as goal

abbrev document_at : List Part → PartId → Document
document_at ps i = unshared ps i.0

abbrev member_at : List Part → PartMember → List ℕ × Document
member_at ps m = (m.name, unshared ps m.part.0)

pub is_part-is_built-requires : goal.is_part-is_built-requires
is_part-is_built-requires t c = (
  omega (arith, c.decreases),
  below-more c.args.id.0 (length c.args.parts.now) (named (part_view c.get.result.now))
      (omega (arith, c.requires)) c.get.ensures.part.below,
)

pub is_part-returns : goal.is_part-returns
is_part-returns t c =
    c.is_built.ensures
    ∙ ap (same_document (view c.args.doc.now)) (ap (built (unshared c.args.parts.now)) c.get.ensures.value
    ∙ sym (unshared-built c.args.parts.now c.args.id.0 c.get.ensures.table c.requires))

pub are_parts-is_part-requires : goal.are_parts-is_part-requires
are_parts-is_part-requires t c = (
  omega (
    arith,
    c.decreases,
    item-depth c.as_slice-docs.result.now c.loop-i.i c.index-docs-i.result (list_view c.args.list.now)
        c.loop-i-test.true c.index-docs-i.is c.as_slice-docs.ensures.view,
  ),
  below-at number_of (length c.args.parts.now) c.loop-i.i c.as_slice-numbers.result.now c.args.ids.now
      (get_or c.as_slice-numbers.result.now c.loop-i.i (record { 0 = 0 })) c.as_slice-numbers.ensures c.requires
      (omega (arith, c.loop-i-test.true, c.if-docs-numbers.false))
      (item-same c.as_slice-numbers.result.now c.loop-i.i _ _
      (omega (arith, c.loop-i-test.true, c.if-docs-numbers.false))),
)

pub are_parts-returns-then-docs-numbers : goal.are_parts-returns-then-docs-numbers
are_parts-returns-then-docs-numbers t c =
    sym (ap₂ (λ ds es. same_items ds (items_of es)) (sym c.as_slice-docs.ensures.view)
    (ap (map (unshared c.args.parts.now)) (sym c.as_slice-numbers.ensures)
    ∙ map-twice (unshared c.args.parts.now) number_of c.as_slice-numbers.result.now)
    ∙ items-sizes view (document_at c.args.parts.now) c.as_slice-docs.result.now c.as_slice-numbers.result.now
    c.if-docs-numbers.true)

pub are_parts-returns-then-not-is_part : goal.are_parts-returns-then-not-is_part
are_parts-returns-then-not-is_part t c =
    let id = get_or c.as_slice-numbers.result.now c.loop-i.i (record { 0 = 0 }) in
    sym (ap₂ (λ ds es. same_items ds (items_of es)) (sym c.as_slice-docs.ensures.view)
    (ap (map (unshared c.args.parts.now)) (sym c.as_slice-numbers.ensures)
    ∙ map-twice (unshared c.args.parts.now) number_of c.as_slice-numbers.result.now)
    ∙ sym c.loop-i.invariant
    ∙ items-other view (document_at c.args.parts.now) c.loop-i.i c.as_slice-docs.result.now
    c.as_slice-numbers.result.now c.index-docs-i.result id c.loop-i-test.true c.if-docs-numbers.false c.index-docs-i.is
    (item-same c.as_slice-numbers.result.now c.loop-i.i _ id
    (omega (arith, c.loop-i-test.true, c.if-docs-numbers.false)))
    (sym c.is_part.ensures ∙ c.if-not-is_part.true))

pub are_parts-returns : goal.are_parts-returns
are_parts-returns t c =
    sym (ap₂ (λ ds es. same_items ds (items_of es)) (sym c.as_slice-docs.ensures.view)
    (ap (map (unshared c.args.parts.now)) (sym c.as_slice-numbers.ensures)
    ∙ map-twice (unshared c.args.parts.now) number_of c.as_slice-numbers.result.now)
    ∙ sym c.loop-i.invariant
    ∙ items-end view (document_at c.args.parts.now) c.loop-i.i c.as_slice-docs.result.now c.as_slice-numbers.result.now
    (omega (arith, c.loop-i-test.false)) c.if-docs-numbers.false)

-- the members of the part as they are compared
others-are : (ps : List Part) (others : List PartMember) (named : List (List ℕ × ℕ)) → map M.member_view others ≡ named
    → map (λ m. (m.0, unshared ps m.1)) named ≡ map (member_at ps) others
others-are ps others named e =
    ap (map (λ m. (m.0, unshared ps m.1))) (sym e) ∙ map-twice (λ m. (m.0, unshared ps m.1)) M.member_view others

pub are_members-is_member-requires : goal.are_members-is_member-requires
are_members-is_member-requires t c = (
  omega (
    arith,
    c.decreases,
    member-depth c.as_slice-docs.result.now c.loop-i.i c.index-docs-i.result (map_view c.args.members.now)
        c.loop-i-test.true c.index-docs-i.is c.as_slice-docs.ensures.view,
  ),
  below-at (λ m. m.part.0) (length c.args.parts.now) c.loop-i.i c.as_slice-others.result.now
      (map (λ m. m.1) c.args.named.now) c.index-others-i.result
      (sym (map-twice (λ m. m.1) M.member_view c.as_slice-others.result.now)
      ∙ ap (map (λ m. m.1)) c.as_slice-others.ensures.list) c.requires
      (omega (arith, c.loop-i-test.true, c.if-docs-others.false)) c.index-others-i.is,
)

pub are_members-returns-then-docs-others : goal.are_members-returns-then-docs-others
are_members-returns-then-docs-others t c =
    sym (ap₂ (λ ds es. same_members ds (members_of es)) (sym c.as_slice-docs.ensures.view)
    (others-are c.args.parts.now c.as_slice-others.result.now c.args.named.now c.as_slice-others.ensures.list)
    ∙ members-sizes member_view (member_at c.args.parts.now) c.as_slice-docs.result.now c.as_slice-others.result.now
    c.if-docs-others.true)

pub are_members-returns-then-not-is_member : goal.are_members-returns-then-not-is_member
are_members-returns-then-not-is_member t c =
    sym (ap₂ (λ ds es. same_members ds (members_of es)) (sym c.as_slice-docs.ensures.view)
    (others-are c.args.parts.now c.as_slice-others.result.now c.args.named.now c.as_slice-others.ensures.list)
    ∙ sym c.loop-i.invariant
    ∙ members-other member_view (member_at c.args.parts.now) c.loop-i.i c.as_slice-docs.result.now
    c.as_slice-others.result.now c.index-docs-i.result c.index-others-i.result c.loop-i-test.true
    c.if-docs-others.false c.index-docs-i.is c.index-others-i.is (sym c.is_member.ensures ∙ c.if-not-is_member.true))

pub are_members-returns : goal.are_members-returns
are_members-returns t c =
    sym (ap₂ (λ ds es. same_members ds (members_of es)) (sym c.as_slice-docs.ensures.view)
    (others-are c.args.parts.now c.as_slice-others.result.now c.args.named.now c.as_slice-others.ensures.list)
    ∙ sym c.loop-i.invariant
    ∙ members-end member_view (member_at c.args.parts.now) c.loop-i.i c.as_slice-docs.result.now
    c.as_slice-others.result.now (omega (arith, c.loop-i-test.false)) c.if-docs-others.false)
