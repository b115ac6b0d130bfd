use Rattle.std.proofs.Common.{◌≡◌, ◌+◌, ◌-◌, ◌*◌, ◌++◌, length}
use Rattle.state_laws.specs.Flow.{flag_at}
use Rattle.js_pattern_positions.specs.Choices.{choices_begun}
use Rattle.js_pattern_positions.proofs.choices.push_choices.Given as goal

abbrev pub invariant-loop-i : goal.invariant-loop-i
invariant-loop-i l = record {
  room : l.reads.room ≡ l.initial.reads.room;
  count : length l.reads.flags + (l.count - l.i) * l.choice.count
      ≡ length l.initial.reads.flags + l.count * l.choice.count;
  flags : l.reads.flags
      ++ choices_begun l.again l.choice.bits l.choice.count (flag_at l.read.flags) (l.count - l.i)
      (length l.reads.flags) l.here
      ≡ l.initial.reads.flags
      ++ choices_begun l.again l.choice.bits l.choice.count (flag_at l.read.flags) l.count
      (length l.initial.reads.flags) l.begins;
}
