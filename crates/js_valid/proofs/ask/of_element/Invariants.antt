use Rattle.std.proofs.Common.{◌≡◌, ℕ, ◌&&◌, Bool, drop}
use Rattle.js_schema.specs.SchemaView.{schema_view}
use Rattle.js_valid.specs.Parts.{asked_by, of_element}
use Rattle.js_valid.specs.Requests.{entries_in, owners_in}
use Rattle.js_valid.proofs.PlaceLaws.{at_places, owner_asks}
use Rattle.js_valid.proofs.ask.of_element.Given as goal

abbrev pub invariant-loop-i : goal.invariant-loop-i
invariant-loop-i l =
    (e : ℕ) (p : ℕ → Bool) → (asked_by e p (owners_in l.requests.items) (entries_in l.requests.items)
    && at_places (owner_asks (schema_view l.schema) (λ f. of_element f l.place) l.owners p) e
    (drop l.i-index l.asking))
    ≡ at_places (owner_asks (schema_view l.schema) (λ f. of_element f l.place) l.owners p) e l.asking
