use Rattle.std.proofs.Common.{◌≡◌, ℕ, ◌<◌, length, get_or}
use Rattle.js_valid.specs.Plan.{StandAt}
use Rattle.js_valid.proofs.plan.places_of.Given as goal

abbrev pub invariant-loop-place : goal.invariant-loop-place
invariant-loop-place l = record {
  len : length l.places.items ≡ l.count;
  stand : (k : ℕ) → k < l.place → StandAt l.order l.places.items (get_or l.order k 0);
}
