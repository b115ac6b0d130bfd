use Rattle.js_doc.specs.View.{view}
use Rattle.js_json.proofs.DocumentsLemmas.{unwhole_places-json_of}
use Rattle.js_json.proofs.read.read_doc.Goals as goal

pub returns-in-Ok-clause-whole : goal.returns-in-Ok-clause-whole
returns-in-Ok-clause-whole c = unwhole_places-json_of (view c.in-Ok.doc)
