use Rattle.std.proofs.Common.{sym}
use Rattle.js_doc.specs.View.{member_view}
use Rattle.js_doc.proofs.Levels.{length-mapped, entries-of}
use Rattle.js_doc.proofs.document.DocMap.len.Goals as goal

pub returns : goal.returns
returns c = sym (length-mapped member_view _ _ (entries-of _ _ c.as_slice.ensures.view))
