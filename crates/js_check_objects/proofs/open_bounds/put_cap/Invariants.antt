-- The bounds so far are those before.
use Rattle.std.proofs.Common.{◌≡◌, ℕ, ◌≤◌, ◌-◌, length}
use Rattle.js_check_objects.specs.Bounds.{cap_at}
use Rattle.js_check_objects.proofs.open_bounds.put_cap.Given as goal

abbrev pub invariant-loop-caps : goal.invariant-loop-caps
invariant-loop-caps l = record {
  few : length l.caps.items ≤ l.cell;
  same : (c : ℕ) → cap_at l.caps.items c ≡ cap_at l.fn.caps.items c;
}

abbrev pub decreases-loop-caps : goal.decreases-loop-caps
decreases-loop-caps l = l.cell - length l.caps.items
