use Rattle.std.proofs.Common.{sym}
use Rattle.js_doc.specs.View.{view}
use Rattle.js_doc.proofs.Levels.{length-mapped, elements-of}
use Rattle.js_doc.proofs.document.DocList.len.Goals as goal

pub returns : goal.returns
returns c = sym (length-mapped view _ _ (elements-of _ _ c.as_slice.ensures.view))
