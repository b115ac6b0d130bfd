-- What is left is still to be noted.
use Rattle.std.proofs.Common.{◌≡◌, ◌≤◌, ◌^◌, ℕ, max, length, drop, get_or}
use Rattle.js_rounds.specs.Slots.{wanted_by}
use Rattle.js_rounds.proofs.names.needs.Given as goal

abbrev pub invariant-loop-run : goal.invariant-loop-run
invariant-loop-run l = record {
  left : (c : ℕ) → max (get_or l.needs.items c 0) (wanted_by (drop l.run-index l.runs) c) ≡ wanted_by l.runs c;
  few : length l.needs.items ≤ 2 ^ 32;
}
