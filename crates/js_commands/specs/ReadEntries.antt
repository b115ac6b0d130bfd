-- The entries that a value is read as.
use Rattle.std.specs.Prelude.{List, [], Result, Ok, Err}
use Rattle.documents.specs.Json.{Json}
use Rattle.schemas.specs.Fault.{Fault}
use Rattle.schemas.specs.Entry.{Entry}
use Rattle.schemas.specs.Entries.{read}
use Rattle.js_json.specs.declared.fault.RefFault.{RefFault}
use Rattle.js_pattern.specs.declared.fault.PatternFault.{PatternFault}
use Rattle.js_keywords.specs.Reading.{rules}

-- the entries of a schema, none where it has a fault
abbrev pub entries_of : Result (List Entry) (Fault PatternFault RefFault) → List Entry
entries_of (Ok es) = es
entries_of (Err f) = []

abbrev pub entries_read : Json → List Entry
entries_read j = entries_of (read rules j)
