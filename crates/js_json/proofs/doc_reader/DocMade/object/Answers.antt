use Rattle.std.proofs.Common.{ap, ◌∙◌}
use Rattle.documents.specs.Json as J
use Rattle.js_doc.proofs.Containers.{view-Members}
use Rattle.js_json.specs.Documents.{json_of_document}
use Rattle.js_json.proofs.doc_reader.DocMade.object.Goals as goal

pub returns-clause-ok : goal.returns-clause-ok
returns-clause-ok c =
    ap json_of_document (view-Members c.in_ok-members_from.field-0) ∙ ap J.object c.in_ok-members_from.ensures.ok
