use Rattle.std.proofs.Common.{◌≡◌, ℕ, ◌&&◌, Bool, drop}
use Rattle.js_schema.specs.SchemaView.{schema_view}
use Rattle.js_valid.specs.Parts.{asked_by, of_contains}
use Rattle.js_valid.specs.Requests.{asks_of, at_owner, entries_in, owners_in}
use Rattle.js_valid.proofs.ask.of_contains.Given as goal

abbrev pub invariant-loop-i : goal.invariant-loop-i
invariant-loop-i l =
    (e : ℕ) (p : ℕ → Bool) → (asked_by e p (owners_in l.requests.items) (entries_in l.requests.items)
    && at_owner (asks_of (schema_view l.schema) of_contains p) e l.i (drop l.i l.owners))
    ≡ at_owner (asks_of (schema_view l.schema) of_contains p) e 0 l.owners
