use Rattle.std.proofs.Common.{◌≡◌, drop}
use Rattle.patterns.specs.CharSet.{are_ranges}
use Rattle.js_pattern.proofs.char_set.CharSet.is_set.Given as goal

abbrev pub invariant-loop-range : goal.invariant-loop-range
invariant-loop-range l = are_ranges l.low (drop l.range-index l.ranges) ≡ are_ranges 0 l.ranges
