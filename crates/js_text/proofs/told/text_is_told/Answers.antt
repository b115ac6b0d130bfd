use Rattle.std.proofs.Common.{sym, ap, ◌∙◌}
use Rattle.documents.specs.Tests.{every, is_scalar}
use Rattle.js_doc.proofs.Scalars.{every-chars}
use Rattle.js_text.proofs.told.text_is_told.Goals as goal

pub returns : goal.returns
returns c = ap (every is_scalar) (sym c.as_text.ensures.text) ∙ every-chars c.as_text.result.now c.as_text.utf8
