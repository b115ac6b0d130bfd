use Rattle.std.proofs.Common.{sym, subst, arith}
use Rattle.shared_documents.specs.Unshared.{unshared}
use Rattle.js_commands.specs.IncludeSaying.{answer_view}
use Rattle.js_top.specs.Printed.{IsDocumentText}
use Rattle.js_top.specs.Report.{IsReadBack}
use Rattle.js_top.proofs.PrintedLaws.{IsDocumentText-found}
use Rattle.js_top.proofs.finding.answer_text.Goals as goal

pub found_text-requires : goal.found_text-requires
found_text-requires c =
    let (last, document) = rw c.in-Document.is at c.requires in
    omega (arith, last)

pub returns-in_ok-text-in-Document-clause-read : goal.returns-in_ok-text-in-Document-clause-read
returns-in_ok-text-in-Document-clause-read c =
    let (last, document) = rw c.in-Document.is at c.requires in
    subst (λ v. IsReadBack (answer_view v) c.in_ok-text-in-Document.text.items) (sym c.in-Document.is)
    (subst (λ t. IsDocumentText t (unshared c.in-Document.parts c.in-Document.root.0))
    (sym c.in_ok-text-in-Document.ensures.text)
    (IsDocumentText-found c.in-Document.parts c.in-Document.root.0 last document
    c.in_ok-text-in-Document.ensures.read))
