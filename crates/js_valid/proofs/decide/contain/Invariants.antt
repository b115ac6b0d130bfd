use Rattle.std.proofs.Common.{◌≡◌, ℕ, ◌&&◌, not, drop}
use Rattle.schemas.specs.Schema.{meets}
use Rattle.draft06.specs.EntryValidity.{form_at}
use Rattle.js_schema.specs.SchemaView.{schema_view}
use Rattle.js_valid.specs.Parts.{flag}
use Rattle.js_valid.specs.Requests.{at_owner, contained}
use Rattle.js_valid.proofs.decide.contain.Given as goal

abbrev pub invariant-loop-i : goal.invariant-loop-i
invariant-loop-i l = (e : ℕ) → (flag l.fine.items e && at_owner (λ i o. meets (λ q. not (flag l.unmet i))
    (contained (form_at (schema_view l.schema) o))) e l.i (drop l.i l.owners))
    ≡ (flag l.fn.fine.items e && at_owner (λ i o. meets (λ q. not (flag l.unmet i))
    (contained (form_at (schema_view l.schema) o))) e 0 l.owners)
