use Rattle.std.proofs.Common.{◌≡◌, ◌<◌, ◌++◌, true, drop}
use Rattle.patterns.specs.CharSet.{with_range}
use Rattle.js_pattern.specs.Ranges.{are_up}
use Rattle.js_pattern.proofs.ranges.with_range.Given as goal

-- the ranges so far and what is left with the range are the whole with the one that was added
abbrev pub invariant-loop-i : goal.invariant-loop-i
invariant-loop-i l = record {
  so_far : l.done.items ++ with_range (l.first, l.last) (drop l.i l.ranges) ≡ with_range l.fn.added l.ranges;
  up : are_up (drop l.i l.ranges) ≡ true;
  within : l.last < 0x110000;
}
