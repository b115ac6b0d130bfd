use Rattle.std.proofs.Common.{length, take, ◌-◌, ◌≡◌, is_some, ◌≤◌}
use Rattle.std.specs.Io.KnownBytes.{Appends}
use Rattle.js_report.proofs.writing.write_report.Given as goal

abbrev pub invariant-pieces : goal.invariant-pieces
invariant-pieces g l = record {
  within : l.done ≤ length l.report;
  written : Appends (g.K.Sink.written l.fn.sink) (g.K.Sink.written l.sink) (take l.done l.report);
  told : is_some (g.K.Sink.written l.sink) ≡ is_some (g.K.Sink.written l.fn.sink);
  counted : g.K.Sink.faults l.sink ≡ g.K.Sink.faults l.fn.sink;
}

abbrev pub decreases-pieces : goal.decreases-pieces
decreases-pieces g l = length l.report - l.done
