use Rattle.std.proofs.Common.{◌≡◌, true}
use Rattle.state_laws.specs.Flow.{flag_at}
use Rattle.js_pattern_positions.proofs.AdvanceSteps.{InTurn}
use Rattle.js_pattern_positions.proofs.reads_next.advance_list.Given as goal

abbrev pub invariant-loop-re : goal.invariant-loop-re
invariant-loop-re l = record {
  room : l.reads.room ≡ l.initial.reads.room;
  rest : InTurn l.next.first (flag_at l.read.flags) l.next.character l.re-items l.initial.reads.flags true
      l.re-index l.reads.flags l.here;
}
