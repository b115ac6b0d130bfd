use Rattle.std.proofs.Common.{◌≡◌, ◌≤◌, ◌++◌, true, drop}
use Rattle.patterns.specs.CharSet.{gaps_from}
use Rattle.js_pattern.specs.Ranges.{are_up}
use Rattle.js_pattern.proofs.ranges.gaps.Given as goal

-- the gaps so far and those of what is left are those of the whole
abbrev pub invariant-loop-range : goal.invariant-loop-range
invariant-loop-range l = record {
  so_far : l.done.items ++ gaps_from l.low (drop l.range-index l.ranges) ≡ gaps_from 0 l.ranges;
  up : are_up (drop l.range-index l.ranges) ≡ true;
  within : l.low ≤ 0x110000;
}
