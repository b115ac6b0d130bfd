use Rattle.std.proofs.Common.{◌≡◌, ◌+◌, ◌-◌, ◌*◌, false, length}
use Rattle.word_states.specs.Position.{count_of}
use Rattle.state_laws.specs.Flow.{flag_at}
use Rattle.js_pattern.specs.View.{view, list_view}
use Rattle.js_pattern_positions.specs.Walk.{nodes, list_nodes}
use Rattle.js_pattern_positions.proofs.EndsSteps.{Left}
use Rattle.js_pattern_positions.proofs.AdvanceSteps.{InTurn, OfOne, Reads}
use Rattle.js_pattern_positions.proofs.reads_next.+advance.Given as goal

abbrev pub decreases-advance : goal.decreases-advance
decreases-advance l = 3 * nodes (view l.re.now)

abbrev pub decreases-advance_item : goal.decreases-advance_item
decreases-advance_item l = 3 * nodes (view l.re.now) + 1

abbrev pub decreases-advance_in_turn : goal.decreases-advance_in_turn
decreases-advance_in_turn l = 3 * list_nodes (list_view l.list.now)

abbrev pub decreases-advance_of_one : goal.decreases-advance_of_one
decreases-advance_of_one l = 3 * list_nodes (list_view l.list.now)

abbrev pub decreases-advance_repeated : goal.decreases-advance_repeated
decreases-advance_repeated l = 3 * nodes (view l.inner.now) + 2

abbrev pub decreases-advance_copies : goal.decreases-advance_copies
decreases-advance_copies l = 3 * nodes (view l.inner.now) + 1

abbrev pub invariant-advance_in_turn-loop-re : goal.invariant-advance_in_turn-loop-re
invariant-advance_in_turn-loop-re l = record {
  room : l.reads.room ≡ l.initial.reads.room;
  rest : InTurn l.next.first (flag_at l.read.flags) l.next.character l.re-items l.initial.reads.flags l.begins
      l.re-index l.reads.flags l.here;
}

abbrev pub invariant-advance_of_one-loop-re : goal.invariant-advance_of_one-loop-re
invariant-advance_of_one-loop-re l = record {
  room : l.reads.room ≡ l.initial.reads.room;
  rest : OfOne l.next.first (flag_at l.read.flags) l.next.character l.re-items l.initial.reads.flags l.begins
      l.re-index l.reads.flags l.ends;
}

abbrev pub invariant-advance_copies-loop-i : goal.invariant-advance_copies-loop-i
invariant-advance_copies-loop-i l = record {
  room : l.reads.room ≡ l.initial.reads.room;
  count : length l.reads.flags + (l.count - l.i) * count_of (view l.inner)
      ≡ length l.initial.reads.flags + l.count * count_of (view l.inner);
  first : length l.reads.flags ≡ length l.initial.reads.flags → l.here ≡ l.begins;
  ends : Left l.next.first false (flag_at l.read.flags) (view l.inner) l.times.low l.times.high
      (length l.initial.reads.flags) l.begins (l.count - l.i) l.i (length l.reads.flags) l.here l.ends;
  flags : Reads l.next.first (flag_at l.read.flags) l.next.character (view l.inner) l.times.low l.times.high
      l.initial.reads.flags l.begins (l.count - l.i) l.reads.flags l.here;
}
