-- The rows before have the flag.
use Rattle.std.proofs.Common.{nat_lt, true}
use Rattle.js_cells.specs.Told.{AreSet}
use Rattle.js_cells.proofs.telling.set_all.Given as goal

abbrev pub invariant-loop-row : goal.invariant-loop-row
invariant-loop-row l = AreSet (λ r. nat_lt r l.row) true l.place l.initial.told.items l.told.items
