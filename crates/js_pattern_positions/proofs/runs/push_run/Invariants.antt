use Rattle.std.proofs.Common.{◌-◌, ◌≡◌, ◌≤◌, ◌++◌, false, length}
use Rattle.state_laws.specs.Flow.{flag_at}
use Rattle.js_pattern_positions.specs.Walk.{copies_begun}
use Rattle.js_pattern_positions.proofs.runs.push_run.Given as goal

abbrev pub invariant-loop-at : goal.invariant-loop-at
invariant-loop-at l = record {
  within : l.at ≤ l.end;
  at : l.at ≡ length l.reads.flags;
  room : l.reads.room ≡ l.initial.reads.room;
  flags : l.reads.flags ++ copies_begun false (flag_at l.read.flags) (l.end - l.at) (length l.reads.flags) l.here
      ≡ l.initial.reads.flags
      ++ copies_begun false (flag_at l.read.flags) l.count (length l.initial.reads.flags) l.begins;
}

abbrev pub decreases-loop-at : goal.decreases-loop-at
decreases-loop-at l = l.end - l.at
