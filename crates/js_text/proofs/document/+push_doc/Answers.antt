use Rattle.std.proofs.Common.{◌∙◌, ap, sym, ◌++◌, ◌∷◌, [], map}
use Rattle.std.specs.String.{string_bytes}
use Rattle.document_texts.specs.Scalars.{string_text, enclosed}
use Rattle.document_texts.specs.DocumentText.{document_text, item_texts, member_texts}
use Rattle.js_doc.specs.View.{view, member_view}
use Rattle.js_text.proofs.ListLemmas.{begun-next, begun-end, member_text, member-written, item_texts-items_of, member_texts-members_of}
use Rattle.js_text.proofs.document.+push_doc.Goals as goal
use Rattle.std.proofs.lemmas.Simd.{map-map}

pub push_items-loop-doc-preserved : goal.push_items-loop-doc-preserved
push_items-loop-doc-preserved t c =
    begun-next (λ d. document_text (view d)) (string_bytes c.args.out.now ++ 91 ∷ []) c.as_slice-doc-items.result.now
    c.loop-doc.doc-index c.doc-item.result (string_bytes c.loop-doc.out) (string_bytes c.push_comma.new.out)
    (string_bytes c.push_doc.new.out) c.loop-doc.first c.loop-doc-test.true c.doc-item.is c.in_ok-push_comma.ensures
    c.in_ok-push_doc.ensures c.loop-doc.invariant

pub push_items-returns : goal.push_items-returns
push_items-returns t c =
    begun-end (λ d. document_text (view d)) (string_bytes c.args.out.now) c.as_slice-doc-items.result.now
    c.loop-doc.doc-index (string_bytes c.loop-doc.out)
    (string_bytes c.push_str.new.self) c.loop-doc.first 91 93 c.loop-doc-test.false
    c.in_ok-push_str.ensures.bytes c.loop-doc.invariant
    ∙ ap (λ xs. string_bytes c.args.out.now ++ enclosed 91 xs 93)
    (sym (map-map document_text view c.as_slice-doc-items.result.now)
    ∙ sym (item_texts-items_of (map view c.as_slice-doc-items.result.now))
    ∙ ap item_texts c.as_slice-doc-items.ensures.view)

pub push_members-loop-member-preserved : goal.push_members-loop-member-preserved
push_members-loop-member-preserved t c =
    begun-next (λ m. member_text (member_view m)) (string_bytes c.args.out.now ++ 123 ∷ [])
    c.as_slice-member-items.result.now c.loop-member.member-index c.member-item.result
    (string_bytes c.loop-member.out) (string_bytes c.push_comma.new.out) (string_bytes c.push_doc.new.out)
    c.loop-member.first c.loop-member-test.true c.member-item.is c.in_ok-push_comma.ensures
    (member-written (string_bytes c.push_comma.new.out) (string_text (member_view c.member-item.result).0)
    (string_bytes c.push_name.new.out) (document_text (member_view c.member-item.result).1)
    (string_bytes c.push_doc.new.out) c.in_ok-push_name.ensures
    (c.in_ok-push_doc.ensures
    ∙ ap (λ d. string_bytes c.push_name.new.out ++ document_text d) c.value.ensures.view))
    c.loop-member.invariant

pub push_members-returns : goal.push_members-returns
push_members-returns t c =
    begun-end (λ m. member_text (member_view m)) (string_bytes c.args.out.now) c.as_slice-member-items.result.now
    c.loop-member.member-index (string_bytes c.loop-member.out)
    (string_bytes c.push_str.new.self) c.loop-member.first 123 125 c.loop-member-test.false
    c.in_ok-push_str.ensures.bytes c.loop-member.invariant
    ∙ ap (λ xs. string_bytes c.args.out.now ++ enclosed 123 xs 125)
    (sym (map-map member_text member_view c.as_slice-member-items.result.now)
    ∙ sym (member_texts-members_of (map member_view c.as_slice-member-items.result.now))
    ∙ ap member_texts c.as_slice-member-items.ensures.view)
