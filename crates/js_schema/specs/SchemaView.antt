-- The entries of a schema.
use Rattle.std.specs.Prelude.{List, map}
use Rattle.schemas.specs.Entry as E
use Rattle.js_pointers.specs.PointersView.{pointers_of}
use Rattle.js_schema.specs.declared.table.Schema.{Schema}
use Rattle.js_schema.specs.View.{entry_view}

abbrev pub schema_view : Schema → List E.Entry
schema_view s = map (entry_view (pointers_of s.pointers)) s.entries.items
