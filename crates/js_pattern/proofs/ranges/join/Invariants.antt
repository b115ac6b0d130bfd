use Rattle.std.proofs.Common.{◌≡◌, ◌<◌, ◌++◌, true, drop}
use Rattle.js_pattern.specs.Ranges.{are_up, joined, joined_from}
use Rattle.js_pattern.proofs.ranges.join.Given as goal

-- the ranges so far and those of what is left are those of the whole
abbrev pub invariant-loop-range : goal.invariant-loop-range
invariant-loop-range l = record {
  so_far : l.done.items ++ joined_from l.first l.last (drop l.range-index l.others) ≡ joined l.ranges;
  up : are_up (drop l.range-index l.others) ≡ true;
  within : l.last < 0x110000;
}
