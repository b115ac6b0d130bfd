-- The document of a value whose numbers are whole.
use Rattle.std.proofs.Common.{◌≡◌, ℕ, List, [], ◌∷◌, Option, Some, codes, refl, ap, ap₂, sym, ◌∙◌}
use Rattle.std.specs.List.{slice_get}
use Rattle.documents.specs.Document as D
use Rattle.documents.specs.Json as J
use Rattle.schemas.specs.Entries.{document_of, items_of, members_of}
use Rattle.js_json.specs.Documents.{json_of_document, json_of_items, json_of_members, unwhole_places}
use Rattle.js_input.specs.DocumentReading.{RefusedDocument, ReadDocument, of_unwhole, of_value}
use Rattle.js_report.specs.RefusalWords.{placed_words}

-- a document's value is that document
mutual
  pub document_of-json : (d : D.Document) → document_of (json_of_document d) ≡ d
  document_of-json D.null = refl
  document_of-json (D.boolean b) = refl
  document_of-json (D.number n) = refl
  document_of-json (D.string s) = refl
  document_of-json (D.array ds) = ap D.array (items_of-json ds)
  document_of-json (D.object ms) = ap D.object (members_of-json ms)

  items_of-json : (ds : D.Items) → items_of (json_of_items ds) ≡ ds
  items_of-json D.no_items = refl
  items_of-json (D.item d ds) = ap₂ D.item (document_of-json d) (items_of-json ds)

  members_of-json : (ms : D.Members) → members_of (json_of_members ms) ≡ ms
  members_of-json D.no_members = refl
  members_of-json (D.member k d ms) = ap₂ (D.member k) (document_of-json d) (members_of-json ms)

pub of_unwhole-whole : (j : J.Json) (d : D.Document) → json_of_document d ≡ j → unwhole_places j ≡ []
    → of_unwhole j (unwhole_places j) ≡ ReadDocument d
of_unwhole-whole j d is none =
    ap (of_unwhole j) none ∙ ap (λ v. ReadDocument (document_of v)) (sym is) ∙ ap ReadDocument (document_of-json d)

-- what a text's value is read as: the document that it is, or the first number that isn't whole
pub of_value-whole : (o : Option J.Json) (d : D.Document) → o ≡ Some (json_of_document d)
    → unwhole_places (json_of_document d) ≡ [] → of_value o ≡ ReadDocument d
of_value-whole o d is none = ap of_value is ∙ of_unwhole-whole (json_of_document d) d refl none

of_places : (j : J.Json) (places : List (List (List ℕ))) (place : List (List ℕ)) → slice_get places 0 ≡ Some place
    → of_unwhole j places ≡ RefusedDocument (placed_words (codes "notwhole") place)
of_places j [] place e = cc
of_places j (p ∷ ps) place e =
    let same : p ≡ place = cc in ap (λ q. RefusedDocument (placed_words (codes "notwhole") q)) same

pub of_value-unwhole : (o : Option J.Json) (j : J.Json) (place : List (List ℕ)) → o ≡ Some j
    → slice_get (unwhole_places j) 0 ≡ Some place
    → of_value o ≡ RefusedDocument (placed_words (codes "notwhole") place)
of_value-unwhole o j place is e = ap of_value is ∙ of_places j (unwhole_places j) place e
