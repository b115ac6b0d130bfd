use Rattle.std.proofs.Common.{◌≡◌, length}
use Rattle.js_schema.specs.SchemaView.{schema_view}
use Rattle.js_valid.specs.Plan.{HasTargets}
use Rattle.js_valid.proofs.targets.targets_of.Given as goal

abbrev pub invariant-loop-entry : goal.invariant-loop-entry
invariant-loop-entry l = record {
  len : length l.targets.items ≡ length (schema_view l.schema);
  targets : HasTargets (schema_view l.schema) l.targets.items;
}
