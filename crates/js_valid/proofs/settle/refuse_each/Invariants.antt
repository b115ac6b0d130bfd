use Rattle.std.proofs.Common.{◌≡◌, ℕ, take, true, false}
use Rattle.js_match.specs.Places.{is_at}
use Rattle.js_valid.specs.Parts.{flag}
use Rattle.js_valid.proofs.settle.refuse_each.Given as goal

abbrev pub invariant-loop-entry : goal.invariant-loop-entry
invariant-loop-entry l =
    (q : ℕ) → is_at q (take l.entry-index l.entries) ≡ true → flag l.held.items q ≡ false
