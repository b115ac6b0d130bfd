use Rattle.std.proofs.Common.{ℕ, ◌<◌, ◌≤◌, ◌-◌}
use Rattle.std.specs.List.{Contains}
use Rattle.js_automaton.specs.Pieces.{AreKept}
use Rattle.js_automaton.proofs.pieces.add_span.Given as goal

abbrev pub invariant-loop-place : goal.invariant-loop-place
invariant-loop-place l =
    AreKept l.fn.places.items l.places.items
    × ((x : ℕ) → l.low ≤ x → x < l.place → Contains l.places.items x)

abbrev pub decreases-loop-place : goal.decreases-loop-place
decreases-loop-place l = l.high - l.place
