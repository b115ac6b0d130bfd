use Rattle.std.proofs.Common.{◌≡◌, ◌+◌, ◌++◌, false, length, sym, ◌∙◌, ap, arith}
use Rattle.patterns.specs.Tree.{repeated}
use Rattle.word_states.specs.Position.{count_of, count_in}
use Rattle.state_laws.specs.Flow.{flag_at}
use Rattle.state_laws.specs.FollowSets.{may_follow}
use Rattle.js_pattern.specs.declared.re.Re.{fold-roll-Re}
use Rattle.js_pattern.specs.declared.re.Re.TheVariants.{rolls-Repeat}
use Rattle.js_pattern.specs.View.{view}
use Rattle.js_pattern_positions.specs.Walk.{list_nodes}
use Rattle.js_pattern_positions.proofs.Items.{rest-tree, nodes-item}
use Rattle.js_pattern_positions.proofs.EndsSteps.{left-next}
use Rattle.js_nfa.proofs.FollowSteps as F
use Rattle.js_nfa.proofs.follow.+follow.Goals as goal

pub follow_again-loop-i-preserved : goal.follow_again-loop-i-preserved
follow_again-loop-i-preserved t c =
    let read = flag_at c.args.read.now.flags in
    let tree = view c.args.inner.now in
    record {
      room = c.follow-at.ensures.room ∙ c.loop-i.invariant.room;
      at = omega (
        arith,
        c.follow-at.ensures.base,
        c.loop-i.invariant.at,
        F.longer read tree c.loop-i.follows.flags c.follow-at.new.follows.flags c.loop-i.at c.loop-i.here
            c.follow-at.ensures.flags,
      );
      count = left-next c.args.base c.args.count (count_of tree) c.loop-i.i c.loop-i.at c.follow-at.result
          c.loop-i-test.true c.loop-i.invariant.count c.follow-at.ensures.base;
      flags = F.again-next read tree c.args.follows.now.flags c.args.count c.args.base c.args.begins c.loop-i.i
          c.loop-i.follows.flags c.follow-at.new.follows.flags c.loop-i.at c.follow-at.result c.loop-i.here
          c.ends_here-passed.result.ends c.loop-i-test.true c.follow-at.ensures.flags c.follow-at.ensures.base
          c.ends_here-passed.ensures.ends c.loop-i.invariant.flags;
    }

pub follow_again-returns-clause-flags : goal.follow_again-returns-clause-flags
follow_again-returns-clause-flags t c =
    F.again-last (flag_at c.args.read.now.flags) (view c.args.inner.now) c.args.follows.now.flags c.args.count
    c.args.base c.args.begins c.loop-i.i c.loop-i.follows.flags c.follow.new.follows.flags c.loop-i.at c.loop-i.here
    c.ends_here-again.result.ends (omega (arith, c.loop-i-test.false)) c.ends_here-again.ensures.ends
    c.follow.ensures.flags c.loop-i.invariant.flags

pub follow_copies-loop-i-preserved : goal.follow_copies-loop-i-preserved
follow_copies-loop-i-preserved t c =
    let read = flag_at c.args.read.now.flags in
    let tree = view c.args.inner.now in
    record {
      room = c.follow-at.ensures.room ∙ c.loop-i.invariant.room;
      at = omega (
        arith,
        c.follow-at.ensures.base,
        c.loop-i.invariant.at,
        F.longer read tree c.loop-i.follows.flags c.follow-at.new.follows.flags c.loop-i.at c.loop-i.here
            c.follow-at.ensures.flags,
      );
      count = left-next c.args.base c.args.count (count_of tree) c.loop-i.i c.loop-i.at c.follow-at.result
          c.loop-i-test.true c.loop-i.invariant.count c.follow-at.ensures.base;
      flags = F.copies-next read tree c.args.follows.now.flags c.args.count c.args.base c.args.begins c.loop-i.i
          c.loop-i.follows.flags c.follow-at.new.follows.flags c.loop-i.at c.follow-at.result c.loop-i.here
          c.ends_here-passed.result.ends c.loop-i-test.true c.follow-at.ensures.flags c.follow-at.ensures.base
          c.ends_here-passed.ensures.ends c.loop-i.invariant.flags;
    }

pub follow_in_turn-follow-at-requires : goal.follow_in_turn-follow-at-requires
follow_in_turn-follow-at-requires t c =
    let items = c.as_slice-re-items.result.now in
    let split = ap count_in
    (rest-tree items c.loop-re.re-index c.re-item.result c.loop-re-test.true c.re-item.is) in
    let count = ap count_in c.as_slice-re-items.ensures.view in
    let before = c.loop-re.invariant in (
      omega (
        arith,
        c.decreases,
        ap list_nodes c.as_slice-re-items.ensures.view,
        nodes-item items c.loop-re.re-index c.re-item.result c.loop-re-test.true c.re-item.is,
      ),
      (
        before.at,
        (
          omega (arith, split, count, before.count, before.room, c.requires.room),
          omega (arith, split, count, before.count, c.requires.small),
        ),
      ),
    )

pub follow_in_turn-loop-re-preserved : goal.follow_in_turn-loop-re-preserved
follow_in_turn-loop-re-preserved t c =
    let read = flag_at c.args.read.now.flags in
    let items = c.as_slice-re-items.result.now in
    let split = ap count_in
    (rest-tree items c.loop-re.re-index c.re-item.result c.loop-re-test.true c.re-item.is) in
    let before = c.loop-re.invariant in
    record {
      room = c.follow-at.ensures.room ∙ before.room;
      at = omega (
        arith,
        c.follow-at.ensures.base,
        before.at,
        F.longer read (view c.re-item.result) c.loop-re.follows.flags c.follow-at.new.follows.flags c.loop-re.at
            c.loop-re.here c.follow-at.ensures.flags,
      );
      count = omega (arith, c.follow-at.ensures.base, split, before.count);
      flags = F.turn-next read items c.args.follows.now.flags c.args.base c.args.begins c.loop-re.re-index
          c.re-item.result c.loop-re.follows.flags c.follow-at.new.follows.flags c.loop-re.at c.follow-at.result
          c.loop-re.here c.ends_here-passed.result.ends c.loop-re-test.true c.re-item.is c.follow-at.ensures.flags
          c.follow-at.ensures.base c.ends_here-passed.ensures.ends before.flags;
    }

pub follow_of_one-follow-at-requires : goal.follow_of_one-follow-at-requires
follow_of_one-follow-at-requires t c =
    let items = c.as_slice-re-items.result.now in
    let split = ap count_in
    (rest-tree items c.loop-re.re-index c.re-item.result c.loop-re-test.true c.re-item.is) in
    let count = ap count_in c.as_slice-re-items.ensures.view in
    let before = c.loop-re.invariant in (
      omega (
        arith,
        c.decreases,
        ap list_nodes c.as_slice-re-items.ensures.view,
        nodes-item items c.loop-re.re-index c.re-item.result c.loop-re-test.true c.re-item.is,
      ),
      (
        before.at,
        (
          omega (arith, split, count, before.count, before.room, c.requires.room),
          omega (arith, split, count, before.count, c.requires.small),
        ),
      ),
    )

pub follow_of_one-loop-re-preserved : goal.follow_of_one-loop-re-preserved
follow_of_one-loop-re-preserved t c =
    let read = flag_at c.args.read.now.flags in
    let items = c.as_slice-re-items.result.now in
    let split = ap count_in
    (rest-tree items c.loop-re.re-index c.re-item.result c.loop-re-test.true c.re-item.is) in
    let before = c.loop-re.invariant in
    record {
      room = c.follow-at.ensures.room ∙ before.room;
      at = omega (
        arith,
        c.follow-at.ensures.base,
        before.at,
        F.longer read (view c.re-item.result) c.loop-re.follows.flags c.follow-at.new.follows.flags c.loop-re.at
            c.args.begins c.follow-at.ensures.flags,
      );
      count = omega (arith, c.follow-at.ensures.base, split, before.count);
      flags = F.one-next read items c.args.follows.now.flags c.args.base c.args.begins c.loop-re.re-index
          c.re-item.result c.loop-re.follows.flags c.follow-at.new.follows.flags c.loop-re.at c.follow-at.result
          c.loop-re-test.true c.re-item.is c.follow-at.ensures.flags c.follow-at.ensures.base before.flags;
    }

pub follow-returns-then-count_positions-eq0-clause-flags : goal.follow-returns-then-count_positions-eq0-clause-flags
follow-returns-then-count_positions-eq0-clause-flags t c =
    let read = flag_at c.args.read.now.flags in
    let flags = c.args.follows.now.flags in
    let inner = view c.in-Repeat.inner.value in
    let is : view c.args.re.now ≡ repeated inner c.in-Repeat.low c.in-Repeat.high =
    ap view (c.in-Repeat.is ∙ sym (rolls-Repeat c.in-Repeat.inner c.in-Repeat.low c.in-Repeat.high))
    ∙ fold-roll-Re _ _ _ _ _ in
    let count : count_of (view c.deref.result.now) ≡ count_of inner = ap (λ r. count_of (view r)) c.deref.ensures in
    let none : count_of inner ≡ 0 = omega (arith, count, c.count_positions.ensures, c.if-count_positions-eq0.true) in
    F.copies-nothing read inner c.in-Repeat.low c.in-Repeat.high flags c.args.base c.args.begins none
    ∙ ap (λ s. flags ++ may_follow s false read c.args.base c.args.begins) (sym is)
