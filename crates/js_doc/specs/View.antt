-- The document that a `Doc` stands for.
use Rattle.std.specs.Prelude.{ℕ, List, min}
use Rattle.documents.specs.Document as D
use Rattle.js_doc.specs.declared.document.Doc.{Doc, fold-Doc}
use Rattle.js_doc.specs.declared.document.Doc.TheOpen.{Doc-F, DocList-F, DocMap-F}
use Rattle.js_doc.specs.declared.document.DocList.{DocList, fold-DocList}
use Rattle.js_doc.specs.declared.document.DocMap.{DocMap, fold-DocMap}
use Rattle.js_doc.specs.declared.rising.Named.{Named}
use Rattle.js_doc.specs.Names.{pairs_of}

abbrev pub doc_step : Doc-F D.Document D.Items D.Members → D.Document
doc_step Doc-F.Null = D.null
doc_step (Doc-F.Bool b) = D.boolean b
doc_step (Doc-F.Num n) = D.number n
doc_step (Doc-F.Text w) = D.string w.text
doc_step (Doc-F.List ds) = D.array ds
doc_step (Doc-F.Members ms) = D.object ms

abbrev pub list_step : DocList-F D.Document D.Items D.Members → D.Items
list_step l = D.items_of l.items.items

abbrev pub map_step : DocMap-F D.Document D.Items D.Members → D.Members
map_step m = D.members_of (pairs_of m.members.members.items)

abbrev pub view : Doc → D.Document
view = fold-Doc D.Document D.Items D.Members doc_step list_step map_step

abbrev pub list_view : DocList → D.Items
list_view = fold-DocList D.Document D.Items D.Members doc_step list_step map_step

abbrev pub map_view : DocMap → D.Members
map_view = fold-DocMap D.Document D.Items D.Members doc_step list_step map_step

abbrev pub member_view : Named Doc → List ℕ × D.Document
member_view m = (m.name.text, view m.value)

-- past the largest u32 a depth is that number
abbrev pub capped : ℕ → ℕ
capped n = min n 4294967295
