use Rattle.std.proofs.Common.{ap, ◌∙◌}
use Rattle.documents.specs.Json as J
use Rattle.js_doc.proofs.Containers.{view-List}
use Rattle.js_json.specs.Documents.{json_of_document, json_of_items}
use Rattle.js_json.proofs.DocumentsLemmas.{json_of_items-items_of}
use Rattle.js_json.proofs.doc_reader.DocMade.array.Goals as goal

pub returns : goal.returns
returns c =
    ap json_of_document (view-List c.from_vec.result)
    ∙ ap J.array (ap json_of_items c.from_vec.ensures ∙ json_of_items-items_of c.args.items.items)
