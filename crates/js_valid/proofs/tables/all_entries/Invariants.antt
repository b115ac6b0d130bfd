use Rattle.std.proofs.Common.{◌≡◌, ℕ, ◌<◌, length, get_or}
use Rattle.js_valid.proofs.tables.all_entries.Given as goal

abbrev pub invariant-loop-entry : goal.invariant-loop-entry
invariant-loop-entry l =
    (length l.entries.items ≡ l.entry) × ((i : ℕ) → i < l.entry → get_or l.entries.items i 0 ≡ i)
