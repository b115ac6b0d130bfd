-- Worked examples of what files are read as, each computed from the definitions.
use Rattle.std.proofs.Common.{arith}
use Rattle.std.specs.Prelude.{◌≡◌, pos, [], ◌∷◌, refl, codes}
use Rattle.documents.specs.Document.{null, number, array, no_items, item}
use Rattle.shared_documents.specs.Part as P
use Rattle.shared_documents.specs.Unshared.{unshared}
use Rattle.js_json.proofs.OnTexts.{json_on_texts}
use Rattle.js_input.specs.SchemaReading.{Refused, IsSchemaReading}
use Rattle.js_input.specs.DocumentReading.{ReadDocument, RefusedDocument, document_reading, IsDocumentReading}

plain_document : document_reading (codes "null") ≡ ReadDocument null
unfolding json_on_texts
plain_document = refl

-- the line that `include` prints is taken off, and nothing else is
after_the_line : document_reading (codes "document\n5\n") ≡ ReadDocument (number (pos 5))
unfolding json_on_texts
after_the_line = refl

another_line : document_reading (codes "document 5\n") ≡ RefusedDocument (codes "notjson")
unfolding json_on_texts
another_line = refl

-- behind that line no parts are read, nor are they JSON text
parts_behind_it : document_reading (codes "document\nparts 1\n0 null\n") ≡ RefusedDocument (codes "notjson")
unfolding json_on_texts
parts_behind_it = refl

-- the last part is the document
parts : IsDocumentReading (codes "parts 2\n0 5\n1 [#0]\n") (ReadDocument (array (item (number (pos 5)) no_items)))
unfolding json_on_texts unshared
parts = (
  P.number (pos 5) ∷ P.array (0 ∷ []) ∷ [],
  record { table = refl; told = refl; some = omega arith; few = omega arith; text = refl },
  refl,
)

not_whole : document_reading (codes "[0.5]") ≡ RefusedDocument (codes "notwhole \"/0\"")
unfolding json_on_texts
not_whole = refl

no_schema : IsSchemaReading (codes "{\"type\":") (Refused (codes "notjson"))
unfolding json_on_texts
no_schema = refl
