use Rattle.std.proofs.Common.{◌++◌, ◌∷◌, []}
use Rattle.std.specs.String.{string_bytes}
use Rattle.document_texts.specs.PartsText.{named_text}
use Rattle.js_doc.specs.PartMembers.{member_view}
use Rattle.js_text.proofs.ListLemmas.{IsBegun}
use Rattle.js_text.proofs.table.push_named.Given as goal

abbrev pub invariant-loop-member : goal.invariant-loop-member
invariant-loop-member l =
    IsBegun (λ m. named_text (member_view m)) (string_bytes l.fn.out ++ 123 ∷ []) l.member-items
    (string_bytes l.out) l.first l.member-index
