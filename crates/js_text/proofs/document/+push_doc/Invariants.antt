use Rattle.std.proofs.Common.{◌++◌, ◌∷◌, []}
use Rattle.std.specs.String.{string_bytes}
use Rattle.document_texts.specs.DocumentText.{document_text}
use Rattle.js_doc.specs.View.{view, member_view}
use Rattle.js_text.proofs.ListLemmas.{IsBegun, member_text}
use Rattle.js_text.proofs.document.+push_doc.Given as goal

abbrev pub invariant-push_items-loop-doc : goal.invariant-push_items-loop-doc
invariant-push_items-loop-doc l =
    IsBegun (λ d. document_text (view d)) (string_bytes l.fn.out ++ 91 ∷ []) l.doc-items
    (string_bytes l.out) l.first l.doc-index

abbrev pub invariant-push_members-loop-member : goal.invariant-push_members-loop-member
invariant-push_members-loop-member l =
    IsBegun (λ m. member_text (member_view m)) (string_bytes l.fn.out ++ 123 ∷ []) l.member-items
    (string_bytes l.out) l.first l.member-index
