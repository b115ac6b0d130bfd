-- The best of the entries so far.
use Rattle.js_guard.specs.Nearest.{IsBest}
use Rattle.js_guard.proofs.cycle.nearest.Given as goal

abbrev pub invariant-loop-target : goal.invariant-loop-target
invariant-loop-target l = IsBest l.distances l.row l.target-index l.best
