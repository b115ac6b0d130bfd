-- Fewer things have few enough pairs, and as many have more.
use Rattle.std.proofs.Common.{◌-◌, ◌<◌, ◌≤◌}
use Rattle.js_algebra.specs.Rules.{pairs}
use Rattle.js_algebra.proofs.choice.most_with.Given as goal

abbrev pub invariant-loop-high : goal.invariant-loop-high
invariant-loop-high l = record {
  few : pairs l.low ≤ l.at_most;
  more : l.at_most < pairs l.high;
  order : l.low < l.high;
  within : l.high ≤ l.n;
}

abbrev pub decreases-loop-high : goal.decreases-loop-high
decreases-loop-high l = l.high - l.low
