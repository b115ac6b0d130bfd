use Rattle.js_doc.specs.JsonView.{view}
use Rattle.js_doc.specs.View as doc
use Rattle.js_reader.proofs.ValuesLemmas.{document_of-made}
use Rattle.js_reader.proofs.values.document.Goals as goal

pub returns-in-Ok : goal.returns-in-Ok
returns-in-Ok c = document_of-made (doc.view c.in-Ok.doc) (view c.args.value.now) c.in-Ok.ensures.document
