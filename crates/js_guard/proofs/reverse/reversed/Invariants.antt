-- The sources of the entries so far are there.
use Rattle.js_guard.proofs.Linking.{AreSources}
use Rattle.js_guard.proofs.reverse.reversed.Given as goal

abbrev pub invariant-loop-target : goal.invariant-loop-target
invariant-loop-target l = AreSources l.edges l.back l.target
