-- The bytes of a file have one reading as a document, whether they hold JSON text or parts; and what calls that read
-- one of the two say of a file.
use Rattle.std.proofs.Common.{◌≡◌, ℕ, ◌≤◌, ◌<◌, List, length, Bool, true, false, nat_lt, cond, ap, sym, ◌∙◌, subst, codes}
use Rattle.std.proofs.lemmas.Bool.{le-ltb}
use Rattle.document_text_laws.proofs.ReadLaws.{read-same, fault-same}
use Rattle.js_json.specs.Value.{value_of}
use Rattle.js_report.specs.WholeFile.{longest_file}
use Rattle.js_input.specs.DocumentReading.{DocumentReading, RefusedDocument, ReadDocument, json_text, of_value, document_reading, begins_parts, parts_words, last_document, IsPartsReading, IsReadingOfParts, IsReadingBegun, IsDocumentReading}
use Rattle.js_input.specs.Saying.{TextSays, DocumentValueSays}
use Rattle.js_input.specs.declared.document.DocumentInput.{DocumentInput}
use Rattle.js_input.specs.declared.document.DocumentInput.TheVariants as D

-- ---- a file has one reading

parts-one : (bytes : List ℕ) (r s : DocumentReading) → IsPartsReading bytes r → IsPartsReading bytes s → r ≡ s
parts-one bytes (ReadDocument d) (ReadDocument e) (ps, h, is) (qs, k, also) =
    ap ReadDocument (is ∙ ap last_document (read-same ps qs bytes h k) ∙ sym also)
parts-one bytes (ReadDocument d) (RefusedDocument words) (ps, h, is) (line, k, also) = absurd (k.none ps h)
parts-one bytes (RefusedDocument words) (ReadDocument d) (line, h, is) (ps, k, also) = absurd (h.none ps k)
parts-one bytes (RefusedDocument words) (RefusedDocument others) (line, h, is) (next, k, also) =
    ap RefusedDocument (is ∙ ap parts_words (fault-same line next bytes h k) ∙ sym also)

length-one : (b : Bool) (bytes : List ℕ) (r s : DocumentReading) → IsReadingOfParts b bytes r
    → IsReadingOfParts b bytes s → r ≡ s
length-one true bytes r s h k = h ∙ sym k
length-one false bytes r s h k = parts-one bytes r s h k

begun-one : (b : Bool) (bytes : List ℕ) (r s : DocumentReading) → IsReadingBegun b bytes r → IsReadingBegun b bytes s
    → r ≡ s
begun-one true bytes r s h k = length-one (nat_lt longest_file (length bytes)) bytes r s h k
begun-one false bytes r s h k = h ∙ sym k

-- two readings of the same bytes as a document are the same
pub IsDocumentReading-one : (bytes : List ℕ) (r s : DocumentReading) → IsDocumentReading bytes r
    → IsDocumentReading bytes s → r ≡ s
IsDocumentReading-one bytes r s h k = begun-one (begins_parts bytes) bytes r s h k

-- ---- JSON text, and a file that is too long

-- ---- parts

pub IsDocumentReading-parts : (bytes : List ℕ) (r : DocumentReading) → begins_parts bytes ≡ true
    → length bytes ≤ longest_file → IsPartsReading bytes r → IsDocumentReading bytes r
IsDocumentReading-parts bytes r begins short is =
    subst (λ b. IsReadingBegun b bytes r) (sym begins)
    (subst (λ t. IsReadingOfParts t bytes r) (sym (le-ltb longest_file (length bytes) short)) is)

-- ---- what calls say

-- of a file that isn't too long, as of the value of its text
reading-value : (bytes text : List ℕ) → length bytes ≤ longest_file → text ≡ json_text bytes
    → document_reading bytes ≡ of_value (value_of text)
reading-value bytes text short is =
    ap (λ b. cond b (RefusedDocument (codes "toolong")) (of_value (value_of (json_text bytes))))
    (le-ltb longest_file (length bytes) short)
    ∙ ap (λ t. of_value (value_of t)) (sym is)

pub TextSays-value : (bytes text : List ℕ) (input : DocumentInput) → length bytes ≤ longest_file
    → text ≡ json_text bytes → DocumentValueSays (value_of text) input → TextSays bytes input
TextSays-value bytes text (D.Read d) short is (read, well) = (reading-value bytes text short is ∙ read, well)
TextSays-value bytes text (D.Parts ps) short is says = absurd says
TextSays-value bytes text (D.Refused words) short is read = reading-value bytes text short is ∙ read
