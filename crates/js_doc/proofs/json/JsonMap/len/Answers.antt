use Rattle.std.proofs.Common.{sym}
use Rattle.js_doc.specs.JsonView.{member_view}
use Rattle.js_doc.proofs.Levels.{length-mapped, json_entries-of}
use Rattle.js_doc.proofs.json.JsonMap.len.Goals as goal

pub returns : goal.returns
returns c = sym (length-mapped member_view _ _ (json_entries-of _ _ c.as_slice.ensures.view))
