use Rattle.std.proofs.Common.{◌≡◌, ℕ, ◌<◌, nat_eq, if◌then◌else◌, length, get_or}
use Rattle.js_automaton.proofs.numbers.places_inside.Given as goal

abbrev pub invariant-loop-i : goal.invariant-loop-i
invariant-loop-i l =
    (length l.places.items ≡ l.i)
    × ((k : ℕ) → k < l.i
    → get_or l.places.items k 0 ≡ (if nat_eq (get_or l.sides k 0) 0 then 0 else get_or l.starts k 0))
