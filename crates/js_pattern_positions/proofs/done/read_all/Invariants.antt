use Rattle.std.proofs.Common.{◌≡◌, true, replicate}
use Rattle.js_pattern_positions.proofs.done.read_all.Given as goal

abbrev pub invariant-loop : goal.invariant-loop
invariant-loop l = record {
  room : l.read.room ≡ l.initial.read.room;
  flags : l.read.flags ≡ replicate l.counter true;
}
