-- No line feed so far.
use Rattle.std.proofs.Common.{◌≡◌, ◌<◌, ℕ, false, get_or, nat_eq}
use Rattle.js_top.proofs.summary.line_of.Given as goal

abbrev pub invariant-loop-end : goal.invariant-loop-end
invariant-loop-end l = (k : ℕ) → k < l.end → nat_eq 10 (get_or l.text k 0) ≡ false
