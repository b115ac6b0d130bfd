-- What the calls answer.
use Rattle.std.specs.Prelude.{◌≡◌, ℕ, List, true, Option, Some, None, Ok, string_bytes, encode_utf8_all}
use Rattle.documents.specs.Document.{is_document}
use Rattle.documents.specs.Json.{Json}
use Rattle.documents.specs.WellFormed.{is_json}
use Rattle.document_texts.specs.PartsRead.{IsRead, IsFault}
use Rattle.schemas.specs.Entry.{Entry}
use Rattle.schemas.specs.Entries.{read}
use Rattle.js_doc.specs.View.{view}
use Rattle.js_outside.specs.Counts.{Rose}
use Rattle.js_outside.specs.Told.{Files}
use Rattle.js_report.specs.WholeFile.{HasBytes}
use Rattle.js_keywords.specs.Reading.{rules}
use Rattle.js_guard.specs.declared.ranked.RankedSchema.{RankedSchema}
use Rattle.js_guard.specs.RankedView.{entries_of}
use Rattle.js_input.specs.SchemaReading.{Refused, Read, IsReadingOfEntries, IsReadingOfResult, IsSchemaReading}
use Rattle.js_input.specs.DocumentReading.{RefusedDocument, ReadDocument, of_value, document_reading, parts_words, last_document, IsDocumentReading}
use Rattle.js_input.specs.declared.schema.SchemaInput.{SchemaInput}
use Rattle.js_input.specs.declared.schema.SchemaInput.TheVariants as S
use Rattle.js_input.specs.declared.document.DocumentInput.{DocumentInput}
use Rattle.js_input.specs.declared.document.DocumentInput.TheVariants as D

-- the program's schema is the table of the value
pub record IsSchemaOf (s : RankedSchema) (j : Json) : Type 0 where
  pub well_formed : is_json j ≡ true
  pub entries : read rules j ≡ Ok (entries_of s)

-- what bytes are read as, as a schema
abbrev pub SchemaSays : List ℕ → SchemaInput → Type 0
SchemaSays bytes (S.Read s) = (j : Json) × IsSchemaReading bytes (Read j) × IsSchemaOf s j
SchemaSays bytes (S.Refused words) = IsSchemaReading bytes (Refused (string_bytes words))

-- what a value is read as, as a schema
abbrev pub ValueSays : Json → SchemaInput → Type 0
ValueSays j (S.Read s) = IsReadingOfResult j (read rules j) (Read j) × IsSchemaOf s j
ValueSays j (S.Refused words) = IsReadingOfResult j (read rules j) (Refused (string_bytes words))

-- what entries are read as, whatever value has them
abbrev pub EntriesSay : List Entry → SchemaInput → Type 0
EntriesSay es (S.Read s) = ((j : Json) → IsReadingOfEntries j es (Read j)) × (entries_of s ≡ es)
EntriesSay es (S.Refused words) = (j : Json) → IsReadingOfEntries j es (Refused (string_bytes words))

-- what bytes are read as, as a document; parts come as the table whose text the bytes are
abbrev pub DocumentSays : List ℕ → DocumentInput → Type 0
DocumentSays bytes (D.Read d) = IsDocumentReading bytes (ReadDocument (view d)) × (is_document (view d) ≡ true)
DocumentSays bytes (D.Parts ps) = IsDocumentReading bytes (ReadDocument (last_document ps)) × IsRead ps bytes
DocumentSays bytes (D.Refused words) = IsDocumentReading bytes (RefusedDocument (string_bytes words))

-- what bytes that hold JSON text are read as, as a document
abbrev pub TextSays : List ℕ → DocumentInput → Type 0
TextSays bytes (D.Read d) = (document_reading bytes ≡ ReadDocument (view d)) × (is_document (view d) ≡ true)
TextSays bytes (D.Parts ps) = ⊥
TextSays bytes (D.Refused words) = document_reading bytes ≡ RefusedDocument (string_bytes words)

-- of the value of the text, where it has one
abbrev pub DocumentValueSays : Option Json → DocumentInput → Type 0
DocumentValueSays o (D.Read d) = (of_value o ≡ ReadDocument (view d)) × (is_document (view d) ≡ true)
DocumentValueSays o (D.Parts ps) = ⊥
DocumentValueSays o (D.Refused words) = of_value o ≡ RefusedDocument (string_bytes words)

-- and of bytes that begin as a table's text does
abbrev pub PartsSay : List ℕ → DocumentInput → Type 0
PartsSay bytes (D.Read d) = ⊥
PartsSay bytes (D.Parts ps) = IsRead ps bytes
PartsSay bytes (D.Refused words) = (line : ℕ) × IsFault line bytes × (string_bytes words ≡ parts_words line)

-- what a file of a shelf is read as, where it could be read
abbrev pub LoadsSchema : Option Files → List ℕ → ℕ → ℕ → Option SchemaInput → Type 0
LoadsSchema told name before after (Some input) =
    (after ≡ before) × ((bytes : List ℕ) × HasBytes told (encode_utf8_all name) bytes × SchemaSays bytes input)
LoadsSchema told name before after None = Rose before after

abbrev pub LoadsDocument : Option Files → List ℕ → ℕ → ℕ → Option DocumentInput → Type 0
LoadsDocument told name before after (Some input) =
    (after ≡ before) × ((bytes : List ℕ) × HasBytes told (encode_utf8_all name) bytes × DocumentSays bytes input)
LoadsDocument told name before after None = Rose before after
