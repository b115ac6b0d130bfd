-- The JSON value that a document of the program stands for.
use Rattle.documents.specs.Json.{Json}
use Rattle.js_doc.specs.declared.document.Doc.{Doc}
use Rattle.js_doc.specs.View.{view}
use Rattle.js_json.specs.Documents.{json_of_document}

abbrev pub as_json : Doc → Json
as_json d = json_of_document (view d)
