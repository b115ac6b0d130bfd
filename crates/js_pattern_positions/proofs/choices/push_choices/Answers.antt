use Rattle.std.proofs.Common.{◌≡◌, ◌+◌, ◌-◌, ◌&&◌, nat_eq, ◌∙◌, length, refl, ap, arith, length-append}
use Rattle.state_laws.specs.Flow.{flag_at}
use Rattle.js_pattern_positions.specs.Walk.{Quiet, some_in}
use Rattle.js_pattern_positions.proofs.EndsSteps.{left-next}
use Rattle.js_pattern_positions.proofs.ChoicesLemmas.{length-chosen, choices-next, choices-stopped}
use Rattle.js_pattern_positions.proofs.choices.push_choices.Goals as goal

pub push_none-requires : goal.push_none-requires
push_none-requires c =
    let size = c.args.choice.count in
    let longer : length c.push_copy.new.reads.flags ≡ length c.loop-i.reads.flags + size =
    ap length c.push_copy.ensures.flags ∙ length-append c.loop-i.reads.flags _
    ∙ ap (λ k. length c.loop-i.reads.flags + k) (length-chosen c.args.choice.bits size _) in
    let left = left-next (length c.args.reads.now.flags) c.args.count size c.loop-i.i (length c.loop-i.reads.flags)
    (length c.push_copy.new.reads.flags) c.loop-i-test.true c.loop-i.invariant.count longer in
    omega (arith, left, c.requires.room, c.push_copy.ensures.room, c.loop-i.invariant.room)

pub returns-then-not-here-clause-flags : goal.returns-then-not-here-clause-flags
returns-then-not-here-clause-flags c =
    let read = flag_at c.args.read.now.flags in
    let size = c.args.choice.count in
    let longer : length c.push_copy.new.reads.flags ≡ length c.loop-i.reads.flags + size =
    ap length c.push_copy.ensures.flags ∙ length-append c.loop-i.reads.flags _
    ∙ ap (λ k. length c.loop-i.reads.flags + k) (length-chosen c.args.choice.bits size _) in
    let quiet : Quiet read (length c.push_copy.new.reads.flags) = λ p h.
    c.has_none_from.ensures c.if-has_none_from.true p (omega (arith, h, longer, c.len-at.ensures)) in
    choices-stopped c.args.again c.args.choice.bits size read (c.args.count - (c.loop-i.i + 1))
    c.push_copy.new.reads.flags c.push_none.new.self.flags _ c.has_some-was.result c.if-not-here.true quiet
    c.push_none.ensures.flags
    (choices-next c.args.again c.args.choice.bits size read c.args.count c.loop-i.i c.loop-i.reads.flags
    c.push_copy.new.reads.flags _ (c.args.again && nat_eq (c.args.count - (c.loop-i.i + 1)) 0) c.loop-i.here
    c.has_some-was.result c.loop-i-test.true refl
    (c.has_some-was.ensures ∙ ap (λ k. some_in read size k) c.len-at.ensures) c.push_copy.ensures.flags
    c.loop-i.invariant.flags)

pub loop-i-preserved : goal.loop-i-preserved
loop-i-preserved c =
    let read = flag_at c.args.read.now.flags in
    let size = c.args.choice.count in
    let longer : length c.push_copy.new.reads.flags ≡ length c.loop-i.reads.flags + size =
    ap length c.push_copy.ensures.flags ∙ length-append c.loop-i.reads.flags _
    ∙ ap (λ k. length c.loop-i.reads.flags + k) (length-chosen c.args.choice.bits size _) in
    record {
      room = c.push_copy.ensures.room ∙ c.loop-i.invariant.room;
      count = left-next (length c.args.reads.now.flags) c.args.count size c.loop-i.i (length c.loop-i.reads.flags)
          (length c.push_copy.new.reads.flags) c.loop-i-test.true c.loop-i.invariant.count longer;
      flags = choices-next c.args.again c.args.choice.bits size read c.args.count c.loop-i.i c.loop-i.reads.flags
          c.push_copy.new.reads.flags _ (c.args.again && nat_eq (c.args.count - (c.loop-i.i + 1)) 0) c.loop-i.here
          c.has_some-was.result c.loop-i-test.true refl
          (c.has_some-was.ensures ∙ ap (λ k. some_in read size k) c.len-at.ensures) c.push_copy.ensures.flags
          c.loop-i.invariant.flags;
    }
