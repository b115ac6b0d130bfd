use Rattle.std.proofs.Common.{sym, ap, ◌∙◌}
use Rattle.documents.specs.Tests.{every, is_scalar}
use Rattle.js_doc.proofs.Scalars.{every-chars}
use Rattle.js_doc.proofs.word.Word.new.Goals as goal

pub invariant_of-result : goal.invariant_of-result
invariant_of-result c = record {
  scalar = ap (every is_scalar) (sym c.as_text.ensures.text) ∙ every-chars c.as_text.result.now c.as_text.utf8;
}
