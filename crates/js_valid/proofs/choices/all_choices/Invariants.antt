use Rattle.std.proofs.Common.{◌≡◌, ℕ, ◌<◌, length}
use Rattle.draft06.specs.EntryValidity.{form_at}
use Rattle.js_schema.specs.SchemaView.{schema_view}
use Rattle.js_valid.specs.Choices.{AreChoices, choices_at}
use Rattle.js_valid.proofs.choices.all_choices.Given as goal

abbrev pub invariant-loop-entry : goal.invariant-loop-entry
invariant-loop-entry l =
    (length l.choices.items ≡ l.entry)
    × ((e : ℕ) → e < length l.choices.items
    → AreChoices (form_at (schema_view l.schema) e) (choices_at l.choices.items e))
