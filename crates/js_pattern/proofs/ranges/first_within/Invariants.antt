use Rattle.std.proofs.Common.{◌≡◌, ◌≤◌, ℕ, true, drop}
use Rattle.patterns.specs.CharSet.{has, are_ranges}
use Rattle.js_pattern.proofs.ranges.first_within.Given as goal

-- the ranges before this one end too early
abbrev pub invariant-loop-range : goal.invariant-loop-range
invariant-loop-range l = record {
  same : (d : ℕ) → l.low ≤ d → has (drop l.range-index l.ranges) d ≡ has l.ranges d;
  ordered : are_ranges 0 (drop l.range-index l.ranges) ≡ true;
}
