use Rattle.std.proofs.Common.{◌≡◌, ℕ, ◌&&◌, ◌||◌, not, nat_eq, Bool, drop}
use Rattle.documents.specs.Tests.{every}
use Rattle.js_valid.specs.Parts.{asked_by}
use Rattle.js_valid.specs.Requests.{entries_in, owners_in}
use Rattle.js_valid.proofs.ask.add.Given as goal

abbrev pub invariant-loop-entry : goal.invariant-loop-entry
invariant-loop-entry l =
    (e : ℕ) (p : ℕ → Bool) → (asked_by e p (owners_in l.requests.items) (entries_in l.requests.items)
    && (not (nat_eq l.owner e) || every p (drop l.entry-index l.entries)))
    ≡ (asked_by e p (owners_in l.fn.requests.items) (entries_in l.fn.requests.items) && (not (nat_eq l.owner e)
    || every p l.entries))
