-- The document of an array or of an object, by what the container stands for.
use Rattle.std.proofs.Common.{◌≡◌, rules}
use Rattle.documents.specs.Document as D
use Rattle.js_doc.specs.declared.document.Doc.TheVariants as V
use Rattle.js_doc.specs.declared.document.Doc as DD
use Rattle.js_doc.specs.declared.document.DocList.{DocList}
use Rattle.js_doc.specs.declared.document.DocMap.{DocMap}
use Rattle.js_doc.specs.View.{view, list_view, map_view}

-- the document of an array is the array of its elements' documents
pub view-List : (l : DocList) → view (V.List l) ≡ D.array (list_view l)
view-List l = search (rules, DD.the_lemmas)

pub view-Members : (m : DocMap) → view (V.Members m) ≡ D.object (map_view m)
view-Members m = search (rules, DD.the_lemmas)
