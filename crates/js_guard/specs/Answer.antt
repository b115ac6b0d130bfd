-- What the guard answers on a schema with these entries.
use Rattle.std.specs.Prelude.{◌≡◌, List}
use Rattle.schemas.specs.Entry.{Entry}
use Rattle.schemas.specs.Guarded.{edges, IsGuarded, IsLeastCycle}
use Rattle.js_schema.specs.SchemaView.{schema_view}
use Rattle.js_guard.specs.RankedView.{entries_of}
use Rattle.js_guard.specs.declared.ranked.Guarded.{Guarded}
use Rattle.js_guard.specs.declared.ranked.Guarded.TheVariants.{Ranked, Circular}

-- no cycle leads through them; or some lead in a circle, and this is the one reported. The schema is handed
-- back
abbrev pub Answers : List Entry → Guarded → Type 0
Answers es (Ranked s) = (entries_of s ≡ es) × IsGuarded (edges es)
Answers es (Circular s cycle) = (schema_view s ≡ es) × (IsGuarded (edges es) → ⊥) × IsLeastCycle (edges es) cycle
