-- Tables of verdicts, one for each part, lowest first.
use Rattle.std.specs.Prelude.{◌≡◌, ℕ, ◌<◌, List, [], length, get_or, Bool}
use Rattle.documents.specs.Document.{Document, null}
use Rattle.schemas.specs.Entry.{Entry}
use Rattle.shared_documents.specs.Part.{Part, part_at}
use Rattle.shared_documents.specs.Unshared.{built, unshared}
use Rattle.js_doc.specs.View.{view}
use Rattle.js_valid.specs.Parts.{flag}
use Rattle.js_valid.specs.Plan.{valid_at}
use Rattle.js_valid.specs.declared.part_frame.FramedPart.{FramedPart}

abbrev pub table_at : List (List Bool) → ℕ → List Bool
table_at ts j = get_or ts j []

-- the verdicts of all entries on the documents of the first parts
abbrev pub KnowsTables : List Entry → List Part → List (List Bool) → Type 0
KnowsTables es ps ts = (j e : ℕ) → j < length ts → flag (table_at ts j) e ≡ valid_at es e (unshared ps j)

-- the document of a part with its frame
abbrev pub document_of : FramedPart → Document
document_of p = unshared p.parts.now p.id.0

-- the frame is the part's
abbrev pub IsFramed : FramedPart → Type 0
IsFramed p = view p.frame.now ≡ built (λ i. null) (part_at p.parts.now p.id.0)
