use Rattle.std.proofs.Common.{◌∙◌, ◌++◌, true, length, ap, arith}
use Rattle.word_states.specs.Position.{count_in}
use Rattle.state_laws.specs.Flow.{flag_at, reads_next_in_turn}
use Rattle.js_pattern_positions.specs.Walk.{Quiet}
use Rattle.js_pattern_positions.proofs.AdvanceSteps as A
use Rattle.js_pattern_positions.proofs.reads_next.advance_list.Goals as goal

pub advance_item-here-requires : goal.advance_item-here-requires
advance_item-here-requires c =
    let room = A.in_turn-room c.args.next.first (flag_at c.args.read.now.flags) c.args.next.character
    c.as_slice-re-items.result.now c.args.reads.now.flags true c.loop-re.re-index c.re-item.result
    c.loop-re.reads.flags c.loop-re.here c.loop-re-test.true c.re-item.is c.loop-re.invariant.rest in
    let count = ap count_in c.as_slice-re-items.ensures.view in record {
      room = omega (arith, room, count, c.requires.end, c.requires.room, c.loop-re.invariant.room);
      small = omega (arith, room, count, c.requires.end, c.requires.small);
    }

pub returns-then-not-here-clause-flags : goal.returns-then-not-here-clause-flags
returns-then-not-here-clause-flags c =
    let first = c.args.next.first in
    let read = flag_at c.args.read.now.flags in
    let character = c.args.next.character in
    let start = c.args.reads.now.flags in
    let room = A.in_turn-within first read character c.as_slice-re-items.result.now start true c.loop-re.re-index
    c.loop-re.reads.flags c.loop-re.here c.loop-re.invariant.rest in
    let count = ap count_in c.as_slice-re-items.ensures.view in
    let quiet : Quiet read (length c.loop-re.reads.flags) = λ p h.
    c.has_none_from.ensures c.if-has_none_from.true p (omega (arith, h, c.len-at.ensures)) in
    A.in_turn-stopped first read character c.as_slice-re-items.result.now start true c.loop-re.re-index _
    c.loop-re.reads.flags c.push_none.new.self.flags c.loop-re.here c.if-not-here.true quiet
    (omega (arith, room, count, c.requires.end, c.len-at.ensures)) c.push_none.ensures.flags c.loop-re.invariant.rest
    ∙ ap (λ ts. start ++ reads_next_in_turn ts first read character (length start) true)
    c.as_slice-re-items.ensures.view

pub loop-re-preserved : goal.loop-re-preserved
loop-re-preserved c = record {
  room = c.advance_item-here.ensures.room ∙ c.loop-re.invariant.room;
  rest = A.in_turn-next c.args.next.first (flag_at c.args.read.now.flags) c.args.next.character
      c.as_slice-re-items.result.now c.args.reads.now.flags true c.loop-re.re-index c.re-item.result
      c.loop-re.reads.flags c.advance_item-here.new.reads.flags c.loop-re.here c.advance_item-here.result
      c.loop-re-test.true c.re-item.is c.advance_item-here.ensures.flags c.advance_item-here.ensures.ends
      c.loop-re.invariant.rest;
}
