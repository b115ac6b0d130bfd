-- The edges of the entries so far are there.
use Rattle.std.proofs.Common.{◌≡◌, take}
use Rattle.schemas.specs.Guarded.{edges}
use Rattle.js_schema.specs.SchemaView.{schema_view}
use Rattle.js_guard.proofs.edges.Edges.of.Given as goal

abbrev pub invariant-loop-entry : goal.invariant-loop-entry
invariant-loop-entry l = l.edges ≡ take l.entry (edges (schema_view l.schema))
