use Rattle.std.proofs.Common.{length, false, replicate, ◌++◌, ◌∙◌, sym, ap, arith}
use Rattle.std.proofs.lemmas.List.{length-replicate}
use Rattle.std.proofs.Math.Bool.{and-false}
use Rattle.state_laws.specs.Flow.{flag_at}
use Rattle.js_pattern.specs.View.{view}
use Rattle.js_pattern_positions.proofs.AdvanceSteps.{length-reads}
use Rattle.js_nfa.proofs.FollowSetsSteps as S
use Rattle.js_nfa.proofs.followers.follow_set.Goals as goal

pub loop-c-init : goal.loop-c-init
loop-c-init c =
    let flags = c.push_none.ensures.flags
    ∙ ap (λ z. z ++ replicate c.args.count false) c.in_ok-follow_set.ensures.flags in
    record {
      room = (omega (arith, c.push_none.ensures.room, c.in_ok-follow_set.ensures.room), c.in_ok-reads.ensures.room);
      length = ap length flags ∙ length-replicate c.args.count false;
      flags = λ q. ap (λ fs. flag_at fs q) flags ∙ S.flag-none_of c.args.count q ∙ sym (and-false _);
    }

pub join-requires : goal.join-requires
join-requires c =
    let reads = S.from_none (view c.args.tree.now) (flag_at c.args.read.now.flags) c.c-item.result c.args.begins
    c.clear.new.self.flags c.advance-ends.new.reads.flags c.clear.ensures.flags c.advance-ends.ensures.flags in
    let long = ap length reads
    ∙ length-reads false (flag_at c.args.read.now.flags) c.c-item.result (view c.args.tree.now) 0 c.args.begins in
    omega (arith, long, c.requires.counted, c.loop-c.invariant.room.0)

pub loop-c-preserved : goal.loop-c-preserved
loop-c-preserved c =
    let reads = S.from_none (view c.args.tree.now) (flag_at c.args.read.now.flags) c.c-item.result c.args.begins
    c.clear.new.self.flags c.advance-ends.new.reads.flags c.clear.ensures.flags c.advance-ends.ensures.flags in
    let long = ap length reads
    ∙ length-reads false (flag_at c.args.read.now.flags) c.c-item.result (view c.args.tree.now) 0 c.args.begins in
    record {
      room = (
        omega (arith, c.join.ensures.room, c.loop-c.invariant.room.0),
        omega (arith, c.advance-ends.ensures.room, c.clear.ensures.room, c.loop-c.invariant.room.1),
      );
      length = ap length c.join.ensures.flags
          ∙ S.length-or_each c.loop-c.follow_set.flags c.advance-ends.new.reads.flags c.args.count
          c.loop-c.invariant.length (long ∙ sym c.requires.counted);
      flags = S.follow_set-more (view c.args.tree.now) (flag_at c.args.read.now.flags) c.args.begins
          c.args.characters.now c.loop-c.c-index c.c-item.result c.loop-c.follow_set.flags
          c.advance-ends.new.reads.flags c.join.new.self.flags
          c.loop-c-test.true c.c-item.is c.loop-c.invariant.flags reads c.join.ensures.flags;
    }
