use Rattle.std.proofs.Common.{◌≡◌, ℕ, ◌&&◌, nat_lt}
use Rattle.js_match.specs.Places.{is_at, marked}
use Rattle.js_match.proofs.places.collect.Given as goal

abbrev pub invariant-loop-place : goal.invariant-loop-place
invariant-loop-place l = (j : ℕ) → is_at j l.places.items ≡ (nat_lt j l.place && marked l.marks j)
