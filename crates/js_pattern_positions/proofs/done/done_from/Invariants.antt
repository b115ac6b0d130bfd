use Rattle.std.proofs.Common.{◌<◌, ◌≤◌, ◌+◌}
use Rattle.js_pattern.specs.View.{view}
use Rattle.js_pattern_positions.specs.Done.{Needs}
use Rattle.js_pattern_positions.proofs.done.done_from.Given as goal

abbrev pub invariant-loop : goal.invariant-loop
invariant-loop l = record {
  room : l.count ≤ l.read.room;
  ordered : l.from < l.most;
  within : l.most ≤ l.count + 1;
  needs : Needs (view l.tree) l.from;
}
