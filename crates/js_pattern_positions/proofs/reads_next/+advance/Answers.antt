use Rattle.std.proofs.Common.{◌≡◌, ◌+◌, ◌-◌, ◌*◌, ◌||◌, ◌∙◌, ◌++◌, false, length, refl, sym, ap, subst, arith}
use Rattle.patterns.specs.Tree.{one_of, either, repeated}
use Rattle.word_states.specs.Position.{count_of, count_in}
use Rattle.state_laws.specs.Flow.{flag_at, ends_here, reads_next}
use Rattle.js_pattern.specs.declared.re.Re.{fold-roll-Re}
use Rattle.js_pattern.specs.declared.re.Re.TheVariants.{rolls-Set, rolls-Alt}
use Rattle.js_pattern.specs.View.{view, list_view}
use Rattle.js_pattern_positions.specs.Walk.{Quiet, list_nodes}
use Rattle.js_pattern_positions.proofs.Items.{nodes-item}
use Rattle.js_pattern_positions.proofs.Quiet.{ends-none, reads-none}
use Rattle.js_pattern_positions.proofs.EndsSteps as E
use Rattle.js_pattern_positions.proofs.AdvanceSteps as A
use Rattle.js_pattern_positions.proofs.reads_next.+advance.Goals as goal
use Rattle.js_pattern_positions.proofs.reads_next.+advance.Goals.{advance_of_one-in-Set, advance_of_one-in_default}

pub advance_item-returns-then-not-begins : goal.advance_item-returns-then-not-begins
advance_item-returns-then-not-begins t c =
    let quiet : Quiet (flag_at c.args.read.now.flags) (length c.args.reads.now.flags) = λ p h.
    c.has_none_from.ensures c.if-has_none_from.true p (omega (arith, h, c.len-at.ensures)) in
    record {
      ends = ends-none c.args.next.first false (flag_at c.args.read.now.flags) (view c.args.re.now)
          (length c.args.reads.now.flags) c.args.begins c.if-not-begins.true quiet;
      flags = reads-none c.args.next.first (flag_at c.args.read.now.flags) c.args.next.character (view c.args.re.now)
          c.args.reads.now.flags c.push_none.new.self.flags c.args.begins c.count_positions.result
          c.if-not-begins.true quiet (omega (arith, c.count_positions.ensures, c.requires.small))
          c.push_none.ensures.flags;
      room = c.push_none.ensures.room;
    }

pub advance_in_turn-advance_item-here-requires : goal.advance_in_turn-advance_item-here-requires
advance_in_turn-advance_item-here-requires t c =
    let room = A.in_turn-room c.args.next.first (flag_at c.args.read.now.flags) c.args.next.character
    c.as_slice-re-items.result.now c.args.reads.now.flags c.args.begins c.loop-re.re-index c.re-item.result
    c.loop-re.reads.flags c.loop-re.here c.loop-re-test.true c.re-item.is c.loop-re.invariant.rest in
    let count = ap count_in c.as_slice-re-items.ensures.view in (
      omega (
        arith,
        c.decreases,
        ap list_nodes c.as_slice-re-items.ensures.view,
        nodes-item c.as_slice-re-items.result.now c.loop-re.re-index c.re-item.result c.loop-re-test.true c.re-item.is,
      ),
      (
        omega (arith, room, count, c.requires.room, c.loop-re.invariant.room),
        omega (arith, room, count, c.requires.small),
      ),
    )

pub advance_in_turn-loop-re-preserved : goal.advance_in_turn-loop-re-preserved
advance_in_turn-loop-re-preserved t c = record {
  room = c.advance_item-here.ensures.room ∙ c.loop-re.invariant.room;
  rest = A.in_turn-next c.args.next.first (flag_at c.args.read.now.flags) c.args.next.character
      c.as_slice-re-items.result.now c.args.reads.now.flags c.args.begins c.loop-re.re-index c.re-item.result
      c.loop-re.reads.flags c.advance_item-here.new.reads.flags c.loop-re.here c.advance_item-here.result
      c.loop-re-test.true c.re-item.is c.advance_item-here.ensures.flags c.advance_item-here.ensures.ends
      c.loop-re.invariant.rest;
}

pub advance_of_one-advance_item-ends-requires : goal.advance_of_one-advance_item-ends-requires
advance_of_one-advance_item-ends-requires t c =
    let room = A.of_one-room c.args.next.first (flag_at c.args.read.now.flags) c.args.next.character
    c.as_slice-re-items.result.now c.args.reads.now.flags c.args.begins c.loop-re.re-index c.re-item.result
    c.loop-re.reads.flags c.loop-re.ends c.loop-re-test.true c.re-item.is c.loop-re.invariant.rest in
    let count = ap count_in c.as_slice-re-items.ensures.view in (
      omega (
        arith,
        c.decreases,
        ap list_nodes c.as_slice-re-items.ensures.view,
        nodes-item c.as_slice-re-items.result.now c.loop-re.re-index c.re-item.result c.loop-re-test.true c.re-item.is,
      ),
      (
        omega (arith, room, count, c.requires.room, c.loop-re.invariant.room),
        omega (arith, room, count, c.requires.small),
      ),
    )

pub advance_of_one-loop-re-preserved : goal.advance_of_one-loop-re-preserved
advance_of_one-loop-re-preserved t c =
    let first = c.args.next.first in
    let read = flag_at c.args.read.now.flags in
    let character = c.args.next.character in
    let items = c.as_slice-re-items.result.now in
    let start = c.args.reads.now.flags in
    let begins = c.args.begins in
    let flags = c.loop-re.reads.flags in
    elim c.match-re.branch [
      | advance_of_one-in-Set w ↦ let is : view c.re-item.result ≡ one_of w.in-Set.set =
          ap view (w.in-Set.is ∙ sym (rolls-Set w.in-Set.set)) ∙ fold-roll-Re _ _ _ _ _ in record {
            room = ap (λ r. r.room) w.reads-is ∙ w.push.ensures.room ∙ c.loop-re.invariant.room;
            rest = subst (λ e. A.OfOne first read character items start begins (c.loop-re.re-index + 1)
                c.match-re.reads.flags e) (sym w.ends-is)
                (A.of_one-next first read character items start begins c.loop-re.re-index c.re-item.result flags
                c.match-re.reads.flags c.loop-re.ends w.contains-ends.result c.loop-re-test.true c.re-item.is
                (A.set-reads first read character (view c.re-item.result) w.in-Set.set flags c.match-re.reads.flags
                begins w.contains-has.result is w.contains-has.ensures
                (ap (λ r. r.flags) w.reads-is ∙ w.push.ensures.flags))
                (A.set-ends first read character (view c.re-item.result) w.in-Set.set (length flags) w.len-at.result
                begins w.contains-ends.result is w.len-at.ensures w.contains-ends.ensures)
                c.loop-re.invariant.rest);
          }
      | advance_of_one-in_default w ↦ record {
        room = ap (λ r. r.room) w.reads-is ∙ w.advance_item-ends.ensures.room ∙ c.loop-re.invariant.room;
        rest = subst (λ e. A.OfOne first read character items start begins (c.loop-re.re-index + 1)
            c.match-re.reads.flags e) (sym w.ends-is)
            (A.of_one-next first read character items start begins c.loop-re.re-index c.re-item.result flags
            c.match-re.reads.flags c.loop-re.ends w.advance_item-ends.result c.loop-re-test.true c.re-item.is
            (ap (λ r. r.flags) w.reads-is ∙ w.advance_item-ends.ensures.flags) w.advance_item-ends.ensures.ends
            c.loop-re.invariant.rest);
      }
    ]

pub advance_repeated-returns-in-Some : goal.advance_repeated-returns-in-Some
advance_repeated-returns-in-Some t c =
    let read = flag_at c.args.read.now.flags in
    let start = c.args.reads.now.flags in
    let is : view c.args.inner.now ≡ either (list_view c.in-Alt.list) =
    ap view (c.in-Alt.is ∙ sym (rolls-Alt c.in-Alt.list)) ∙ fold-roll-Re _ _ _ _ _ in
    record {
      ends = c.advance_choices.ensures.ends (list_view c.in-Alt.list) c.args.next.character c.args.next.first
          c.in-Some.ensures
          ∙ ap (λ s. ends_here (repeated s c.args.times.low c.args.times.high) c.args.next.first false read
          (length start) c.args.begins) (sym is);
      flags = c.advance_choices.ensures.flags (list_view c.in-Alt.list) c.args.next.character c.args.next.first
          c.in-Some.ensures
          ∙ ap (λ s. start ++ reads_next (repeated s c.args.times.low c.args.times.high) c.args.next.first read
          c.args.next.character (length start) c.args.begins) (sym is);
      room = c.advance_choices.ensures.room;
    }

pub advance_repeated-returns-in-Some-option_has : goal.advance_repeated-returns-in-Some-option_has
advance_repeated-returns-in-Some-option_has t c =
    let read = flag_at c.args.read.now.flags in
    let start = c.args.reads.now.flags in
    record {
      ends = c.advance_options.ensures.ends (view c.args.inner.now) c.args.next.character c.args.next.first
          c.in-Some-option_has.ensures
          ∙ ap (λ high. ends_here (repeated (view c.args.inner.now) c.args.times.low high) c.args.next.first false read
          (length start) c.args.begins) (sym c.in-Some-high.is);
      flags = c.advance_options.ensures.flags (view c.args.inner.now) c.args.next.character c.args.next.first
          c.in-Some-option_has.ensures
          ∙ ap (λ high. start ++ reads_next (repeated (view c.args.inner.now) c.args.times.low high) c.args.next.first
          read c.args.next.character (length start) c.args.begins) (sym c.in-Some-high.is);
      room = c.advance_options.ensures.room;
    }

pub advance_copies-loop-i-init : goal.advance_copies-loop-i-init
advance_copies-loop-i-init t c = record {
  room = refl;
  count = E.left-init (length c.args.reads.now.flags) c.copies-count.result (count_of (view c.args.inner.now));
  first = λ e. refl;
  ends = E.ends-init c.args.next.first false (flag_at c.args.read.now.flags) (view c.args.inner.now)
      c.args.times.low c.args.times.high (length c.args.reads.now.flags) c.args.begins c.copies-count.result
      c.may_end-ends.result c.copies-count.ensures c.may_end-ends.ensures;
  flags = A.reads-init c.args.next.first (flag_at c.args.read.now.flags) c.args.next.character (view c.args.inner.now)
      c.args.times.low c.args.times.high c.args.reads.now.flags c.args.begins c.copies-count.result
      c.copies-count.ensures;
}

pub advance_copies-returns-then-after-base-clause-ends : goal.advance_copies-returns-then-after-base-clause-ends
advance_copies-returns-then-after-base-clause-ends t c =
    let begins = A.begins-is c.args.next.first (flag_at c.args.read.now.flags) c.args.next.character
    (view c.args.inner.now) c.args.times.low c.args.times.high c.args.reads.now.flags c.args.begins
    (c.copies-count.result - (c.loop-i.i + 1)) (length c.loop-i.reads.flags) c.len-at.result c.comes_again-again.result
    c.loop-i.here c.begins_copy-start.result c.comes_again-again.ensures c.len-at.ensures c.begins_copy-start.ensures in
    let longer = A.length-next c.args.next.first (flag_at c.args.read.now.flags) c.args.next.character
    (view c.args.inner.now) c.loop-i.reads.flags c.advance-one.new.reads.flags (length c.loop-i.reads.flags)
    c.begins_copy-start.result c.advance-one.ensures.flags in
    E.ends-nowhere c.args.next.first false (flag_at c.args.read.now.flags) (view c.args.inner.now)
    c.args.times.low c.args.times.high (length c.args.reads.now.flags) c.args.begins c.copies-count.result c.loop-i.i
    (length c.loop-i.reads.flags) c.loop-i.here c.advance-one.result c.ends_still.result c.copies-count.ensures
    c.loop-i.invariant.count
    (sym c.len-base.ensures ∙ sym c.if-after-base.true ∙ c.len-after.ensures ∙ longer)
    c.loop-i.invariant.first
    (A.one-is c.args.next.first (flag_at c.args.read.now.flags) c.args.next.character
    (view c.args.inner.now) c.args.times.low c.args.times.high c.args.reads.now.flags c.args.begins
    (c.copies-count.result - (c.loop-i.i + 1)) (length c.loop-i.reads.flags) c.loop-i.here c.begins_copy-start.result
    c.advance-one.result begins c.advance-one.ensures.ends)
    c.ends_still.ensures

pub advance_copies-returns-then-after-base-clause-flags : goal.advance_copies-returns-then-after-base-clause-flags
advance_copies-returns-then-after-base-clause-flags t c =
    A.reads-nowhere c.args.next.first (flag_at c.args.read.now.flags) c.args.next.character
    (view c.args.inner.now) c.args.times.low c.args.times.high c.args.reads.now.flags c.args.begins
    c.copies-count.result c.loop-i.i c.loop-i.reads.flags c.advance-one.new.reads.flags c.loop-i.here
    c.begins_copy-start.result c.loop-i.invariant.count (sym c.len-after.ensures ∙ c.if-after-base.true
    ∙ c.len-base.ensures) c.advance-one.ensures.flags c.loop-i.invariant.flags

pub advance_copies-overflow_mul-count : goal.advance_copies-overflow_mul-count
advance_copies-overflow_mul-count t c =
    let longer = A.length-next c.args.next.first (flag_at c.args.read.now.flags) c.args.next.character
    (view c.args.inner.now) c.loop-i.reads.flags c.advance-one.new.reads.flags (length c.loop-i.reads.flags)
    c.begins_copy-start.result c.advance-one.ensures.flags in
    let each = count_of (view c.args.inner.now) in
    let more = c.copies-count.result - (c.loop-i.i + 1) in
    let size : c.len-after.result - c.len-at.result ≡ each =
    omega (arith, longer, c.len-after.ensures, c.len-at.ensures) in
    let rest : more * (c.len-after.result - c.len-at.result) ≡ more * each = ap (λ s. more * s) size in
    let left = E.left-next (length c.args.reads.now.flags) c.copies-count.result each c.loop-i.i
    (length c.loop-i.reads.flags) (length c.advance-one.new.reads.flags) c.loop-i-test.true
    c.loop-i.invariant.count longer in
    let all = ap (λ k. k * each) c.copies-count.ensures in
    omega (arith, rest, left, all, c.requires.small)

pub advance_copies-push_none-requires : goal.advance_copies-push_none-requires
advance_copies-push_none-requires t c =
    let longer = A.length-next c.args.next.first (flag_at c.args.read.now.flags) c.args.next.character
    (view c.args.inner.now) c.loop-i.reads.flags c.advance-one.new.reads.flags (length c.loop-i.reads.flags)
    c.begins_copy-start.result c.advance-one.ensures.flags in
    let each = count_of (view c.args.inner.now) in
    let more = c.copies-count.result - (c.loop-i.i + 1) in
    let size : c.len-after.result - c.len-at.result ≡ each =
    omega (arith, longer, c.len-after.ensures, c.len-at.ensures) in
    let rest : more * (c.len-after.result - c.len-at.result) ≡ more * each = ap (λ s. more * s) size in
    let left = E.left-next (length c.args.reads.now.flags) c.copies-count.result each c.loop-i.i
    (length c.loop-i.reads.flags) (length c.advance-one.new.reads.flags) c.loop-i-test.true
    c.loop-i.invariant.count longer in
    let all = ap (λ k. k * each) c.copies-count.ensures in
    omega (arith, rest, left, all, c.requires.room, c.advance-one.ensures.room, c.loop-i.invariant.room)

pub advance_copies-returns-then-not-here : goal.advance_copies-returns-then-not-here
advance_copies-returns-then-not-here t c =
    let longer = A.length-next c.args.next.first (flag_at c.args.read.now.flags) c.args.next.character
    (view c.args.inner.now) c.loop-i.reads.flags c.advance-one.new.reads.flags (length c.loop-i.reads.flags)
    c.begins_copy-start.result c.advance-one.ensures.flags in
    let each = count_of (view c.args.inner.now) in
    let more = c.copies-count.result - (c.loop-i.i + 1) in
    let size : c.len-after.result - c.len-at.result ≡ each =
    omega (arith, longer, c.len-after.ensures, c.len-at.ensures) in
    let rest : more * (c.len-after.result - c.len-at.result) ≡ more * each = ap (λ s. more * s) size in
    let begins = A.begins-is c.args.next.first (flag_at c.args.read.now.flags) c.args.next.character
    (view c.args.inner.now) c.args.times.low c.args.times.high c.args.reads.now.flags c.args.begins
    more (length c.loop-i.reads.flags) c.len-at.result c.comes_again-again.result
    c.loop-i.here c.begins_copy-start.result c.comes_again-again.ensures c.len-at.ensures c.begins_copy-start.ensures in
    let quiet : Quiet (flag_at c.args.read.now.flags) (length c.advance-one.new.reads.flags) = λ p h.
    c.has_none_from.ensures c.if-has_none_from.true p (omega (arith, h, c.len-after.ensures)) in
    record {
      ends = E.ends-stopped c.args.next.first false (flag_at c.args.read.now.flags) (view c.args.inner.now)
          c.args.times.low c.args.times.high (length c.args.reads.now.flags) c.args.begins more (c.loop-i.i + 1)
          (length c.advance-one.new.reads.flags) c.advance-one.result _ c.if-not-here.true quiet
          (E.ends-next c.args.next.first false (flag_at c.args.read.now.flags) (view c.args.inner.now)
          c.args.times.low c.args.times.high (length c.args.reads.now.flags) c.args.begins c.copies-count.result
          c.loop-i.i (length c.loop-i.reads.flags) (length c.advance-one.new.reads.flags) c.loop-i.here
          c.advance-one.result c.loop-i.ends _ c.loop-i-test.true
          (A.one-is c.args.next.first (flag_at c.args.read.now.flags) c.args.next.character
          (view c.args.inner.now) c.args.times.low c.args.times.high c.args.reads.now.flags c.args.begins more
          (length c.loop-i.reads.flags) c.loop-i.here c.begins_copy-start.result c.advance-one.result begins
          c.advance-one.ensures.ends)
          longer (ap (λ x. c.loop-i.ends || x) c.may_end-ends-in-loop-i.ensures) c.loop-i.invariant.ends);
      flags = A.reads-stopped c.args.next.first (flag_at c.args.read.now.flags) c.args.next.character
          (view c.args.inner.now) c.args.times.low c.args.times.high c.args.reads.now.flags c.args.begins more _
          c.advance-one.new.reads.flags c.push_none.new.self.flags c.advance-one.result c.if-not-here.true quiet rest
          c.push_none.ensures.flags
          (A.reads-next c.args.next.first (flag_at c.args.read.now.flags) c.args.next.character
          (view c.args.inner.now) c.args.times.low c.args.times.high c.args.reads.now.flags c.args.begins
          c.copies-count.result c.loop-i.i c.loop-i.reads.flags c.advance-one.new.reads.flags c.loop-i.here
          c.begins_copy-start.result c.advance-one.result c.loop-i-test.true begins c.advance-one.ensures.flags
          c.advance-one.ensures.ends c.loop-i.invariant.flags);
      room = c.push_none.ensures.room ∙ c.advance-one.ensures.room ∙ c.loop-i.invariant.room;
    }

pub advance_copies-loop-i-preserved : goal.advance_copies-loop-i-preserved
advance_copies-loop-i-preserved t c =
    let begins = A.begins-is c.args.next.first (flag_at c.args.read.now.flags) c.args.next.character
    (view c.args.inner.now) c.args.times.low c.args.times.high c.args.reads.now.flags c.args.begins
    (c.copies-count.result - (c.loop-i.i + 1)) (length c.loop-i.reads.flags) c.len-at.result c.comes_again-again.result
    c.loop-i.here c.begins_copy-start.result c.comes_again-again.ensures c.len-at.ensures c.begins_copy-start.ensures in
    let longer = A.length-next c.args.next.first (flag_at c.args.read.now.flags) c.args.next.character
    (view c.args.inner.now) c.loop-i.reads.flags c.advance-one.new.reads.flags (length c.loop-i.reads.flags)
    c.begins_copy-start.result c.advance-one.ensures.flags in
    record {
      room = c.advance-one.ensures.room ∙ c.loop-i.invariant.room;
      count = E.left-next (length c.args.reads.now.flags) c.copies-count.result (count_of (view c.args.inner.now))
          c.loop-i.i (length c.loop-i.reads.flags) (length c.advance-one.new.reads.flags) c.loop-i-test.true
          c.loop-i.invariant.count longer;
      first = λ e. absurd (c.if-after-base.false (c.len-after.ensures ∙ e ∙ sym c.len-base.ensures));
      ends = E.ends-next c.args.next.first false (flag_at c.args.read.now.flags) (view c.args.inner.now)
          c.args.times.low c.args.times.high (length c.args.reads.now.flags) c.args.begins c.copies-count.result
          c.loop-i.i (length c.loop-i.reads.flags) (length c.advance-one.new.reads.flags) c.loop-i.here
          c.advance-one.result c.loop-i.ends _ c.loop-i-test.true
          (A.one-is c.args.next.first (flag_at c.args.read.now.flags) c.args.next.character
          (view c.args.inner.now) c.args.times.low c.args.times.high c.args.reads.now.flags c.args.begins
          (c.copies-count.result - (c.loop-i.i + 1)) (length c.loop-i.reads.flags) c.loop-i.here
          c.begins_copy-start.result c.advance-one.result begins c.advance-one.ensures.ends)
          longer (ap (λ x. c.loop-i.ends || x) c.may_end-ends-in-loop-i.ensures) c.loop-i.invariant.ends;
      flags = A.reads-next c.args.next.first (flag_at c.args.read.now.flags) c.args.next.character
          (view c.args.inner.now) c.args.times.low c.args.times.high c.args.reads.now.flags c.args.begins
          c.copies-count.result c.loop-i.i c.loop-i.reads.flags c.advance-one.new.reads.flags c.loop-i.here
          c.begins_copy-start.result c.advance-one.result c.loop-i-test.true begins c.advance-one.ensures.flags
          c.advance-one.ensures.ends c.loop-i.invariant.flags;
    }
