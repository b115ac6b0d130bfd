-- What is left of both goals decides.
use Rattle.std.proofs.Common.{drop}
use Rattle.goals.specs.Goal as G
use Rattle.js_algebra.proofs.Contained.{Keeps}
use Rattle.js_algebra.proofs.goal.contains.Given as goal

abbrev pub invariant-loop-x : goal.invariant-loop-x
invariant-loop-x l = Keeps (G.contains l.big l.small) (drop l.x-index l.all) l.left
