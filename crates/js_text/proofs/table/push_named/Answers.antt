use Rattle.std.proofs.Common.{◌∙◌, ap, ◌++◌, ◌∷◌, [], map, sym}
use Rattle.std.specs.String.{string_bytes}
use Rattle.document_texts.specs.Scalars.{enclosed}
use Rattle.document_texts.specs.PartsText.{named_text}
use Rattle.js_doc.specs.PartMembers.{member_view}
use Rattle.js_text.proofs.ListLemmas.{begun-next, begun-end}
use Rattle.js_text.proofs.table.push_named.Goals as goal
use Rattle.std.proofs.lemmas.Simd.{map-map}

pub loop-member-preserved : goal.loop-member-preserved
loop-member-preserved c =
    begun-next (λ m. named_text (member_view m)) (string_bytes c.args.out.now ++ 123 ∷ [])
    c.as_slice-member-items.result.now c.loop-member.member-index c.member-item.result
    (string_bytes c.loop-member.out) (string_bytes c.push_comma.new.out) (string_bytes c.push_member.new.out)
    c.loop-member.first c.loop-member-test.true c.member-item.is c.in_ok-push_comma.ensures
    c.in_ok-push_member.ensures c.loop-member.invariant

pub returns : goal.returns
returns c =
    begun-end (λ m. named_text (member_view m)) (string_bytes c.args.out.now) c.as_slice-member-items.result.now
    c.loop-member.member-index (string_bytes c.loop-member.out)
    (string_bytes c.push_str.new.self) c.loop-member.first 123 125 c.loop-member-test.false
    c.in_ok-push_str.ensures.bytes c.loop-member.invariant
    ∙ ap (λ xs. string_bytes c.args.out.now ++ enclosed 123 xs 125)
    (sym (map-map named_text member_view c.as_slice-member-items.result.now)
    ∙ ap (map named_text) c.as_slice-member-items.ensures.list)
