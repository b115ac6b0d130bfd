use Rattle.std.proofs.Common.{◌≡◌, ℕ, ◌+◌, ◌||◌, ◌&&◌, not, drop, length}
use Rattle.js_match.specs.Places.{is_at, marked, unmarked}
use Rattle.js_match.proofs.places.mark_new.Given as goal

abbrev pub invariant-loop-place : goal.invariant-loop-place
invariant-loop-place l = record {
  len : length l.marks.items ≡ length l.fn.marks.items;
  marks : (j : ℕ) → (marked l.marks.items j || is_at j (drop l.place-index l.places))
      ≡ (marked l.fn.marks.items j || is_at j l.places);
  fresh : (j : ℕ) → (is_at j l.fresh.items || (not (marked l.marks.items j) && is_at j (drop l.place-index l.places)))
      ≡ (not (marked l.fn.marks.items j) && is_at j l.places);
  fewer : length l.fresh.items + unmarked l.marks.items ≡ unmarked l.fn.marks.items;
}
