use Rattle.std.proofs.Common.{◌≡◌, map, take}
use Rattle.js_pattern.specs.View.{view}
use Rattle.js_pattern.proofs.trees.+same.Given as goal

abbrev pub invariant-same_lists-loop-i : goal.invariant-same_lists-loop-i
invariant-same_lists-loop-i l = map view (take l.i l.xs) ≡ map view (take l.i l.ys)
