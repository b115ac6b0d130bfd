-- What is left is still to be marked.
use Rattle.std.proofs.Common.{◌≡◌, ◌<◌, ◌||◌, ℕ, false, nat_eq, length, drop, get_or}
use Rattle.documents.specs.Tests.{some}
use Rattle.js_rounds.specs.Spread.{spread}
use Rattle.js_rounds.proofs.used.mark_runs.Given as goal

abbrev pub invariant-loop-run : goal.invariant-loop-run
invariant-loop-run l = record {
  same : length l.marks ≡ length l.initial.marks;
  marks : (m : ℕ) → m < length l.initial.marks
      → (get_or l.marks m false || some (λ p. nat_eq p.goal m) (spread (drop l.run-index l.runs)))
      ≡ (get_or l.initial.marks m false || some (λ p. nat_eq p.goal m) (spread l.runs));
}
