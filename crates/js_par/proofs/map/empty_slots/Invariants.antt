-- As many slots as turns.
use Rattle.std.proofs.Common.{◌≡◌, vec_len}
use Rattle.js_par.proofs.map.empty_slots.Given as goal

abbrev pub invariant-loop : goal.invariant-loop
invariant-loop g l = vec_len l.slots ≡ l.counter
