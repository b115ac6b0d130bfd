use Rattle.std.proofs.Common.{◌≡◌, ℕ, ◌+◌, ◌-◌, ◌≤◌, ◌||◌, drop, length}
use Rattle.js_match.specs.Places.{is_at}
use Rattle.js_match.proofs.places.join.Given as goal

abbrev pub invariant-loop-i : goal.invariant-loop-i
invariant-loop-i l = record {
  first : l.i ≤ length l.xs;
  second : l.j ≤ length l.ys;
  both : (p : ℕ) → (is_at p l.joined.items || (is_at p (drop l.i l.xs) || is_at p (drop l.j l.ys)))
      ≡ (is_at p l.xs || is_at p l.ys);
}

abbrev pub decreases-loop-i : goal.decreases-loop-i
decreases-loop-i l = (length l.xs - l.i) + (length l.ys - l.j)
