use Rattle.std.proofs.Common.{◌≡◌, ℕ, nat_lt}
use Rattle.js_match.specs.Places.{is_at}
use Rattle.js_match.proofs.found.places.Given as goal

abbrev pub invariant-loop-place : goal.invariant-loop-place
invariant-loop-place l = (j : ℕ) → is_at j l.places.items ≡ nat_lt j l.place
