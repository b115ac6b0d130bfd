use Rattle.std.proofs.Common.{◌≡◌, take}
use Rattle.js_algebra.specs.View.{places}
use Rattle.js_normal.proofs.lists.positions.Given as goal

abbrev pub invariant-loop-entry : goal.invariant-loop-entry
invariant-loop-entry l = places l.positions.items ≡ take l.entry-index l.entry-items
