-- What the bytes of a document file are read as.
use Rattle.std.specs.Prelude.{◌≡◌, ℕ, ◌-◌, List, [], ◌∷◌, ◌++◌, length, drop, Bool, true, false, cond, nat_eq, nat_lt, Option, Some, None, codes, decimal}
use Rattle.std.specs.List.{starts_with}
use Rattle.documents.specs.Document.{Document}
use Rattle.documents.specs.Json.{Json}
use Rattle.shared_documents.specs.Part.{Part}
use Rattle.shared_documents.specs.Unshared.{unshared}
use Rattle.document_texts.specs.PartsRead.{IsRead, IsFault}
use Rattle.schemas.specs.Entries.{document_of}
use Rattle.js_json.specs.Value.{value_of}
use Rattle.js_json.specs.Documents.{unwhole_places}
use Rattle.js_report.specs.RefusalWords.{placed_words}
use Rattle.js_report.specs.WholeFile.{longest_file}

-- a document, or the words of the refusal after the file's role
pub data DocumentReading : Type 0 where
  RefusedDocument : List ℕ → DocumentReading
  ReadDocument : Document → DocumentReading

-- the line before a document, as `include` prints it
abbrev pub document_line : List ℕ
document_line = codes "document" ++ 10 ∷ []

-- the JSON text of a file: what comes after the line, where the file begins with it, and else all of the file
abbrev pub json_text : List ℕ → List ℕ
json_text bytes = cond (starts_with nat_eq bytes document_line) (drop (length document_line) bytes) bytes

-- the first number that isn't whole is reported
abbrev pub of_unwhole : Json → List (List (List ℕ)) → DocumentReading
of_unwhole j [] = ReadDocument (document_of j)
of_unwhole j (p ∷ ps) = RefusedDocument (placed_words (codes "notwhole") p)

abbrev pub of_value : Option Json → DocumentReading
of_value (Some j) = of_unwhole j (unwhole_places j)
of_value None = RefusedDocument (codes "notjson")

-- Of a file that holds JSON text: its length first, then its JSON, then the first number that isn't whole.
abbrev pub document_reading : List ℕ → DocumentReading
document_reading bytes =
    cond (nat_lt longest_file (length bytes)) (RefusedDocument (codes "toolong"))
    (of_value (value_of (json_text bytes)))

-- ---- tables of parts

-- the word that a table's text begins with; no JSON text does
abbrev pub parts_word : List ℕ
parts_word = codes "parts"

abbrev pub begins_parts : List ℕ → Bool
begins_parts bytes = starts_with nat_eq bytes parts_word

-- up to and with the line of this number, from 1, the bytes begin no table's text
abbrev pub parts_words : ℕ → List ℕ
parts_words line = codes "parts " ++ decimal line

-- the document that the last part of a table stands for
abbrev pub last_document : List Part → Document
last_document ps = unshared ps (length ps - 1)

-- the text of a table is read as the document of its last part
abbrev pub IsPartsReading : List ℕ → DocumentReading → Type 0
IsPartsReading bytes (ReadDocument d) = (ps : List Part) × IsRead ps bytes × (d ≡ last_document ps)
IsPartsReading bytes (RefusedDocument words) = (line : ℕ) × IsFault line bytes × (words ≡ parts_words line)

-- its length comes first here too
abbrev pub IsReadingOfParts : (is_too_long : Bool) → List ℕ → DocumentReading → Type 0
IsReadingOfParts true bytes r = r ≡ RefusedDocument (codes "toolong")
IsReadingOfParts false bytes r = IsPartsReading bytes r

abbrev pub IsReadingBegun : (with_parts : Bool) → List ℕ → DocumentReading → Type 0
IsReadingBegun true bytes r = IsReadingOfParts (nat_lt longest_file (length bytes)) bytes r
IsReadingBegun false bytes r = r ≡ document_reading bytes

-- What the bytes of a document file are read as: a table of parts where they begin with its word, and else JSON text.
-- There is one such reading.
abbrev pub IsDocumentReading : List ℕ → DocumentReading → Type 0
IsDocumentReading bytes r = IsReadingBegun (begins_parts bytes) bytes r
