use Rattle.std.proofs.Common.{◌≡◌, ℕ, ◌<◌, List, map, length}
use Rattle.draft06.specs.EntryValidity.{form_at}
use Rattle.shared_documents.specs.Part.{Part}
use Rattle.shared_documents.specs.Unshared.{unshared}
use Rattle.js_match.specs.Matching.{matches}
use Rattle.js_valid.specs.Parts.{flag}
use Rattle.js_valid.specs.PartTables.{KnowsTables}
use Rattle.js_valid.specs.Plan.{table_of, valid_at}
use Rattle.js_valid.specs.Requests.{parts_members}
use Rattle.js_valid.proofs.validator.Validator.fine_named.Given as goal

abbrev pub invariant-loop-entry : goal.invariant-loop-entry
invariant-loop-entry l = record {
  len : length l.fine.items ≡ l.entry;
  fine : (ps : List Part) → KnowsTables (table_of l.self) ps l.tables → (e : ℕ) → e < l.entry
      → flag l.fine.items e ≡ parts_members matches (valid_at (table_of l.self)) (form_at (table_of l.self) e)
      (map (λ m. (m.0, unshared ps m.1)) l.named);
}
