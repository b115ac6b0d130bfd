-- What is printed of a document is read back as that document: its text in the line behind `document`, or its parts.
use Rattle.std.proofs.Common.{◌≡◌, ℕ, ◌+◌, ◌≤◌, List, [], ◌∷◌, ◌++◌, length, true, cond, codes, refl, ap, sym, ◌∙◌, subst, arith, length-append}
use Rattle.std.proofs.lemmas.Bool.{le-ltb}
use Rattle.documents.specs.Document as D
use Rattle.documents.specs.Document.{Document, is_document, depth}
use Rattle.shared_documents.specs.Part.{Part}
use Rattle.document_texts.specs.DocumentText.{document_text}
use Rattle.document_texts.specs.Measured.{has_short_numbers}
use Rattle.document_texts.specs.PartsRead.{IsRead}
use Rattle.document_texts.specs.PartsText.{parts_text}
use Rattle.js_json.specs.Documents.{json_of_document}
use Rattle.js_json.proofs.DocumentsLemmas.{unwhole_places-json_of}
use Rattle.js_json.specs.Value.{value_of}
use Rattle.js_report.specs.WholeFile.{longest_file}
use Rattle.text_laws.proofs.TextLaws.{value_of-line}
use Rattle.js_input.specs.DocumentReading.{ReadDocument, RefusedDocument, of_value, document_reading, begins_parts, last_document, IsDocumentReading}
use Rattle.js_input.proofs.DocumentReadingLemmas.{of_unwhole-whole}
use Rattle.js_input.proofs.PartsReadingLemmas.{IsDocumentReading-parts}

-- the lines of a document that is printed plain
abbrev pub plain_lines : Document → List ℕ
plain_lines d = codes "document" ++ 10 ∷ document_text d ++ 10 ∷ []

length-plain_lines : (d : Document) → length (plain_lines d) ≡ length (document_text d) + 10
length-plain_lines d = omega (arith, length-append (document_text d) (10 ∷ []))

-- They are read back where they are no longer than a file may be: where the text has ten bytes less. `serde_json` reads
-- 127 levels.
pub document_reading-plain : (d : Document) → is_document d ≡ true → has_short_numbers d ≡ true → depth d ≤ 127
    → length (document_text d) + 10 ≤ longest_file → document_reading (plain_lines d) ≡ ReadDocument d
document_reading-plain d is short shallow fits =
    ap (λ b. cond b (RefusedDocument (codes "toolong")) (of_value (value_of (document_text d ++ 10 ∷ []))))
    (le-ltb longest_file (length (plain_lines d))
    (subst (λ n. n ≤ longest_file) (sym (length-plain_lines d)) fits))
    ∙ ap of_value (value_of-line d is short shallow)
    ∙ of_unwhole-whole (json_of_document d) d refl (unwhole_places-json_of d)

-- The text of a table is read back as the document of its last part, where it is no longer than a file may be.
pub IsDocumentReading-table : (ps : List Part) (bytes : List ℕ) → IsRead ps bytes → length bytes ≤ longest_file
    → IsDocumentReading bytes (ReadDocument (last_document ps))
IsDocumentReading-table ps bytes read fits =
    IsDocumentReading-parts bytes (ReadDocument (last_document ps)) (begins ps bytes read.text) fits (ps, read, refl)
  where
    begins : (ps : List Part) (bytes : List ℕ) → parts_text ps ≡ bytes → begins_parts bytes ≡ true
    begins ps bytes is = subst (λ b. begins_parts b ≡ true) is refl
