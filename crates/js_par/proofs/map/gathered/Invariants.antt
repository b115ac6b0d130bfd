-- What was gathered so far is what the slots so far hold.
use Rattle.std.proofs.Common.{◌≡◌, Some, map}
use Rattle.js_par.proofs.map.gathered.Given as goal

abbrev pub invariant-loop-slot : goal.invariant-loop-slot
invariant-loop-slot g l = map Some l.answers.items ≡ l.yielded
