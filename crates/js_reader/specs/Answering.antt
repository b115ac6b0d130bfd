-- What reading a schema answers.
use Rattle.std.specs.Prelude.{◌≡◌, List, Result, Ok, Err}
use Rattle.std.specs.Result.{result_err}
use Rattle.schemas.specs.Entry.{Entry}
use Rattle.schemas.specs.Fault.{Fault}
use Rattle.js_json.specs.declared.fault.RefFault.{RefFault}
use Rattle.js_pattern.specs.declared.fault.PatternFault.{PatternFault}
use Rattle.js_keywords.specs.declared.fault.SchemaFault.{SchemaFault}
use Rattle.js_keywords.specs.FaultView.{Tells}
use Rattle.js_schema.specs.declared.table.Schema.{Schema}
use Rattle.js_schema.specs.SchemaView.{schema_view}

-- the schema has the entries that are owed, or the fault is the one that is owed, unless memory was refused
abbrev pub Answers : Result (List Entry) (Fault PatternFault RefFault) → Result Schema SchemaFault → Type 0
Answers owed (Ok s) = owed ≡ Ok (schema_view s)
Answers owed (Err f) = Tells (result_err owed) f
