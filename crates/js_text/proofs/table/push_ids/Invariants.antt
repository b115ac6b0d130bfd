use Rattle.std.proofs.Common.{◌++◌, ◌∷◌, []}
use Rattle.std.specs.String.{string_bytes}
use Rattle.document_texts.specs.PartsText.{reference_text}
use Rattle.js_text.proofs.ListLemmas.{IsBegun}
use Rattle.js_text.proofs.table.push_ids.Given as goal

abbrev pub invariant-loop-id : goal.invariant-loop-id
invariant-loop-id l =
    IsBegun (λ i. reference_text i.0) (string_bytes l.fn.out ++ 91 ∷ []) l.id-items
    (string_bytes l.out) l.first l.id-index
