-- The entries of a schema that has ranks.
use Rattle.std.specs.Prelude.{List}
use Rattle.schemas.specs.Entry.{Entry}
use Rattle.js_schema.specs.SchemaView.{schema_view}
use Rattle.js_guard.specs.declared.ranked.RankedSchema.{RankedSchema}

abbrev pub entries_of : RankedSchema → List Entry
entries_of s = schema_view s.table
