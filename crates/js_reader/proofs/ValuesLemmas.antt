-- Documents of values, and texts without characters.
use Rattle.std.proofs.Common.{◌≡◌, List, [], ◌∷◌, map, chars, rules, refl, sym, ap, ap₂, ◌∙◌}
use Rattle.documents.specs.Document as D
use Rattle.documents.specs.Json.{Json, array, Items, no_items, item, elements}
use Rattle.schemas.specs.Entries.{document_of, items_of, members_of, listed}
use Rattle.js_doc.specs.declared.document.Doc.{Doc}
use Rattle.js_doc.specs.declared.document.Doc.TheVariants as DV
use Rattle.js_doc.specs.declared.document.Doc as DD
use Rattle.js_doc.specs.declared.document.DocList.{DocList}
use Rattle.js_doc.specs.View as V
use Rattle.js_json.specs.Documents.{json_of_document, json_of_items, json_of_members}
use Rattle.js_keywords.proofs.WordsLemmas.{chars-is_ascii}

pub chars-empty : chars [] ≡ []
chars-empty = chars-is_ascii [] refl

pub ruleset empty_texts = (chars-empty)

mutual
  document_of-json : (d : D.Document) → document_of (json_of_document d) ≡ d
  document_of-json D.null = refl
  document_of-json (D.boolean b) = refl
  document_of-json (D.number n) = refl
  document_of-json (D.string s) = refl
  document_of-json (D.array ds) = ap D.array (items_of-json ds)
  document_of-json (D.object ms) = ap D.object (members_of-json ms)

  items_of-json : (ds : D.Items) → items_of (json_of_items ds) ≡ ds
  items_of-json D.no_items = refl
  items_of-json (D.item d ds) = ap₂ D.item (document_of-json d) (items_of-json ds)

  members_of-json : (ms : D.Members) → members_of (json_of_members ms) ≡ ms
  members_of-json D.no_members = refl
  members_of-json (D.member k d ms) = ap₂ (D.member k) (document_of-json d) (members_of-json ms)

-- the document whose value it is
pub document_of-made : (d : D.Document) (v : Json) → json_of_document d ≡ v → d ≡ document_of v
document_of-made d v h = sym (document_of-json d) ∙ ap document_of h

in_list : D.Document → List D.Document
in_list (D.array ds) = D.elements ds
in_list _ = []

elements-items_of : (vs : Items) → D.elements (items_of vs) ≡ map document_of (elements vs)
elements-items_of no_items = refl
elements-items_of (item v vs) = ap (λ ds. document_of v ∷ ds) (elements-items_of vs)

in_list-document_of : (v : Json) → in_list (document_of v) ≡ map document_of (listed v)
unfolding in_list
in_list-document_of (array vs) = elements-items_of vs
in_list-document_of _ = refl

view-List : (l : DocList) → V.view (DV.List l) ≡ D.array (V.list_view l)
view-List l = search (rules, DD.the_lemmas)

-- the documents of a list's document
pub elements-listed : (d : Doc) (l : DocList) (v : Json) → d ≡ DV.List l → V.view d ≡ document_of v
    → D.elements (V.list_view l) ≡ map document_of (listed v)
unfolding in_list
elements-listed d l v is h =
    ap in_list (sym (ap V.view is ∙ view-List l) ∙ h) ∙ in_list-document_of v
