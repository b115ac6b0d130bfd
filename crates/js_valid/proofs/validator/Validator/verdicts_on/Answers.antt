use Rattle.std.proofs.Common.{ap, ◌∙◌}
use Rattle.std.proofs.lemmas.Result.{IfOk-weaker}
use Rattle.documents.specs.Document.{null}
use Rattle.shared_documents.specs.Unshared.{built}
use Rattle.js_valid.specs.Parts.{flag}
use Rattle.js_valid.proofs.validator.Validator.verdicts_on.Goals as goal

pub settle_part-requires-clause-frame : goal.settle_part-requires-clause-frame
settle_part-requires-clause-frame c = c.in_ok-frame.ensures ∙ ap (built (λ i. null)) c.get.ensures.value

pub settle_part-requires-clause-fine : goal.settle_part-requires-clause-fine
settle_part-requires-clause-fine c e l = ap (λ bs. flag bs e) c.deref.ensures.value ∙ c.in_ok-fine.ensures e l

pub returns : goal.returns
returns c =
    IfOk-weaker c.of.result _ _
    (λ vs is e. ap (λ bs. flag bs e) (is ∙ c.deref-2.ensures.value) ∙ c.in_ok-table.ensures e) c.of.ensures
