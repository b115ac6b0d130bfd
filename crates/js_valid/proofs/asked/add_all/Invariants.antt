use Rattle.std.proofs.Common.{◌≡◌, ℕ, ◌||◌, drop}
use Rattle.js_match.specs.Places.{is_at}
use Rattle.js_valid.specs.AskedEntries.{placed}
use Rattle.js_valid.proofs.asked.add_all.Given as goal

abbrev pub invariant-loop-entry : goal.invariant-loop-entry
invariant-loop-entry l =
    (k : ℕ) → (is_at k l.pending || is_at k (placed l.plan.places.items (drop l.entry-index l.entries)))
    ≡ (is_at k l.fn.pending || is_at k (placed l.plan.places.items l.entries))
