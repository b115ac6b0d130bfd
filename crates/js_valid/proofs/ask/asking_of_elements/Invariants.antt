use Rattle.std.proofs.Common.{◌≡◌, ℕ, ◌<◌, [], length, get_or, false}
use Rattle.draft06.specs.EntryValidity.{form_at}
use Rattle.js_schema.specs.SchemaView.{schema_view}
use Rattle.js_match.specs.Places.{is_at}
use Rattle.js_valid.specs.Parts.{of_element}
use Rattle.js_valid.proofs.ask.asking_of_elements.Given as goal

abbrev pub invariant-loop-i : goal.invariant-loop-i
invariant-loop-i l = record {
  within : (k : ℕ) → k < length l.places.items → get_or l.places.items k 0 < length l.owners;
  others : (j : ℕ) → j < l.i → is_at j l.places.items ≡ false
      → (k : ℕ) → of_element (form_at (schema_view l.schema) (get_or l.owners j 0)) k ≡ [];
}
