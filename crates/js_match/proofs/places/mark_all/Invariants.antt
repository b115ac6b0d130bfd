use Rattle.std.proofs.Common.{◌≡◌, ℕ, ◌||◌, drop, length}
use Rattle.js_match.specs.Places.{is_at, marked}
use Rattle.js_match.proofs.places.mark_all.Given as goal

abbrev pub invariant-loop-place : goal.invariant-loop-place
invariant-loop-place l = record {
  len : length l.marks.items ≡ length l.fn.marks.items;
  marks : (j : ℕ) → (marked l.marks.items j || is_at j (drop l.place-index l.places))
      ≡ (marked l.fn.marks.items j || is_at j l.places);
}
