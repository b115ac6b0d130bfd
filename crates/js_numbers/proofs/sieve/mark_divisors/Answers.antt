use Rattle.std.proofs.Common.{refl}
use Rattle.js_numbers.specs.declared.candidates.TheConstants.{MOST_STRUCK}
use Rattle.js_numbers.specs.View.{group_of}
use Rattle.js_numbers.proofs.SieveLaws.{AddsMarks-none, AddsMarks-divisor, AreStepsMarked-none}
use Rattle.js_numbers.proofs.sieve.mark_divisors.Goals as goal

pub loop-b-init : goal.loop-b-init
loop-b-init c = record {
  marks = AddsMarks-none MOST_STRUCK c.args.m (group_of c.args.group.now) c.args.marks.now;
  steps = AreStepsMarked-none MOST_STRUCK c.args.m 65536 (group_of c.args.group.now) c.args.marks.now;
}

pub loop-b-preserved : goal.loop-b-preserved
loop-b-preserved c = record {
  marks = AddsMarks-divisor MOST_STRUCK c.args.m (group_of c.args.group.now) c.args.group.now.not_multiples.now
      c.loop-b.b-index _ c.step_of.result c.args.marks.now c.loop-b.marks c.strike.new.marks c.requires.multiple.0
      c.loop-b-test.true refl c.step_of.ensures.strikes c.loop-b.invariant.marks c.strike.ensures.marks;
  steps = c.strike.ensures.steps;
}
