use Rattle.std.proofs.Common.{◌≡◌, drop}
use Rattle.js_pattern.specs.Fingerprint.{ranges_from}
use Rattle.js_pattern.proofs.trees.ranges_print.Given as goal

abbrev pub invariant-loop-range : goal.invariant-loop-range
invariant-loop-range l = ranges_from l.print (drop l.range-index l.ranges) ≡ ranges_from 4 l.ranges
