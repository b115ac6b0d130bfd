use Rattle.std.proofs.Common.{◌+◌, refl, ap, arith}
use Rattle.js_pattern_positions.proofs.ChoicesLemmas.{partly-init, partly-shifted}
use Rattle.js_pattern_positions.proofs.choices.choice_of.Goals as goal

pub loop-re-init : goal.loop-re-init
loop-re-init c = record {
  place = refl;
  within = omega arith;
  sets = partly-init c.as_slice-items.result.now c.args.character;
}

pub loop-re-preserved : goal.loop-re-preserved
loop-re-preserved c = record {
  place = ap (λ k. k + 1) c.loop-re.invariant.place;
  within = omega (arith, c.loop-re-test.true);
  sets = partly-shifted c.as_slice-items.result.now c.args.character c.loop-re.re-index c.loop-re.place c.loop-re.bits
      c.from.result c.re-item.result c.in-Some.has c.loop-re-test.true c.if-count-gt64.false
      c.loop-re.invariant.place c.re-item.is c.from.ensures c.in-Some.ensures c.loop-re.invariant.sets;
}
