-- The value of a file.
use Rattle.documents.specs.Json.{Json}
use Rattle.js_doc.specs.JsonView.{view}
use Rattle.js_walk.specs.declared.file.File.{File}

abbrev pub root_of : File → Json
root_of f = view f.root.now
