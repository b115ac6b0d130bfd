use Rattle.std.proofs.Common.{◌≡◌, ℕ, ◌<◌, List, map, length}
use Rattle.draft06.specs.EntryValidity.{form_at}
use Rattle.shared_documents.specs.Part.{Part}
use Rattle.shared_documents.specs.Unshared.{unshared}
use Rattle.js_schema.specs.SchemaView.{schema_view}
use Rattle.js_valid.specs.Parts.{flag}
use Rattle.js_valid.specs.PartTables.{KnowsTables}
use Rattle.js_valid.specs.Plan.{valid_at}
use Rattle.js_valid.specs.Requests.{parts_list}
use Rattle.js_valid.proofs.part_fine.fine_list.Given as goal

abbrev pub invariant-loop-entry : goal.invariant-loop-entry
invariant-loop-entry l = record {
  len : length l.fine.items ≡ l.entry;
  fine : (ps : List Part) → KnowsTables (schema_view l.schema) ps l.tables → (e : ℕ) → e < l.entry
      → flag l.fine.items e ≡ parts_list (valid_at (schema_view l.schema)) (form_at (schema_view l.schema) e)
      (map (unshared ps) l.ids);
}
