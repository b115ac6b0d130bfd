-- Which document a printed text is read back as.
use Rattle.std.specs.Prelude.{◌≡◌, ◌⊎◌, ℕ, suc, List, ◌∷◌, ◌++◌, length, Some, codes}
use Rattle.documents.specs.Document.{Document}
use Rattle.shared_documents.specs.Part.{Part}
use Rattle.shared_documents.specs.Unshared.{unshared}
use Rattle.document_texts.specs.PartsRead.{IsRead}
use Rattle.js_json.specs.Documents.{json_of_document}
use Rattle.js_json.specs.Value.{value_of}

-- the text is the line `document` and a JSON text, which is read back as the document
pub record IsPlainText (text : List ℕ) (d : Document) : Type 0 where
  pub rest : List ℕ
  pub line : text ≡ codes "document" ++ 10 ∷ rest
  pub value : value_of rest ≡ Some (json_of_document d)

-- the text is that of a table of parts, of which the last one stands for the document
pub record IsPartsText (text : List ℕ) (d : Document) : Type 0 where
  pub parts : List Part
  pub read : IsRead parts text
  pub number : ℕ
  pub last : suc number ≡ length parts
  pub is : unshared parts number ≡ d

abbrev pub IsDocumentText : List ℕ → Document → Type 0
IsDocumentText text d = IsPlainText text d ⊎ IsPartsText text d
