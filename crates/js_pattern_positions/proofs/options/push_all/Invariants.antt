use Rattle.std.proofs.Common.{◌-◌, ◌≡◌, ◌≤◌, ◌++◌, true, length, replicate}
use Rattle.js_pattern_positions.proofs.options.push_all.Given as goal

abbrev pub invariant-loop-at : goal.invariant-loop-at
invariant-loop-at l = record {
  within : l.at ≤ l.end;
  at : l.at ≡ length l.reads.flags;
  room : l.reads.room ≡ l.initial.reads.room;
  flags : l.reads.flags ++ replicate (l.end - l.at) true ≡ l.initial.reads.flags ++ replicate l.count true;
}

abbrev pub decreases-loop-at : goal.decreases-loop-at
decreases-loop-at l = l.end - l.at
