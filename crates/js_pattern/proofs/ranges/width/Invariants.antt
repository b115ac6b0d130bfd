use Rattle.std.proofs.Common.{◌≡◌, ◌+◌, true, drop}
use Rattle.pattern_laws.specs.Laws.{width_of}
use Rattle.js_pattern.specs.Ranges.{are_up}
use Rattle.js_pattern.proofs.ranges.width.Given as goal

abbrev pub invariant-loop-range : goal.invariant-loop-range
invariant-loop-range l = record {
  so_far : l.width + width_of (drop l.range-index l.ranges) ≡ width_of l.ranges;
  up : are_up (drop l.range-index l.ranges) ≡ true;
}
