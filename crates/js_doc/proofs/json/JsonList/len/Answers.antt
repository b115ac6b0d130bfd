use Rattle.std.proofs.Common.{sym}
use Rattle.js_doc.specs.JsonView.{view}
use Rattle.js_doc.proofs.Levels.{length-mapped, json_elements-of}
use Rattle.js_doc.proofs.json.JsonList.len.Goals as goal

pub returns : goal.returns
returns c = sym (length-mapped view _ _ (json_elements-of _ _ c.as_slice.ensures.view))
