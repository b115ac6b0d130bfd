use Rattle.std.proofs.Common.{◌∙◌, ap, ◌++◌, ◌∷◌, [], map, get_or, sym}
use Rattle.std.specs.String.{string_bytes}
use Rattle.document_texts.specs.Scalars.{enclosed}
use Rattle.document_texts.specs.PartsText.{reference_text}
use Rattle.js_doc.specs.PartMembers.{number_of}
use Rattle.js_text.proofs.ListLemmas.{begun-next, begun-end}
use Rattle.js_text.proofs.table.push_ids.Goals as goal
use Rattle.std.proofs.lemmas.List.{get_or_default}
use Rattle.std.proofs.lemmas.Simd.{map-map}

pub loop-id-preserved : goal.loop-id-preserved
loop-id-preserved c =
    let ids = c.as_slice-id-items.result.now in
    let id = get_or ids c.loop-id.id-index (record { 0 = 0 }) in
    begun-next (λ i. reference_text i.0) (string_bytes c.args.out.now ++ 91 ∷ []) ids c.loop-id.id-index id
    (string_bytes c.loop-id.out) (string_bytes c.push_comma.new.out) (string_bytes c.push_id.new.out) c.loop-id.first
    c.loop-id-test.true (get_or_default ids c.loop-id.id-index _ id c.loop-id-test.true) c.in_ok-push_comma.ensures
    c.in_ok-push_id.ensures c.loop-id.invariant

pub returns : goal.returns
returns c =
    begun-end (λ i. reference_text i.0) (string_bytes c.args.out.now) c.as_slice-id-items.result.now
    c.loop-id.id-index (string_bytes c.loop-id.out)
    (string_bytes c.push_str.new.self) c.loop-id.first 91 93 c.loop-id-test.false
    c.in_ok-push_str.ensures.bytes c.loop-id.invariant
    ∙ ap (λ xs. string_bytes c.args.out.now ++ enclosed 91 xs 93)
    (sym (map-map reference_text number_of c.as_slice-id-items.result.now)
    ∙ ap (map reference_text) c.as_slice-id-items.ensures)
