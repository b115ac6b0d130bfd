use Rattle.std.proofs.Common.{ap, sym, ◌∙◌, arith}
use Rattle.js_pattern.specs.View.{cut}
use Rattle.js_pattern.proofs.Runs.{run-digit, run-other, run-end}
use Rattle.js_pattern.proofs.scan.digits.Goals as goal

pub loop-i-preserved : goal.loop-i-preserved
loop-i-preserved c =
    let step =
    run-digit c.args.radix c.loop-i.number c.saturating_add-number.result c.loop-i.i c.index-text-i.result
    c.in-Some.digit
    c.args.text.now (omega arith) c.loop-i-test.true c.index-text-i.is c.in-Some.ensures.value.0
    (sym c.in-Some.ensures.value.1)
    (omega arith) in
    record {
      number =
          step.0 ∙ c.loop-i.invariant.number;
      count = step.1 ∙ c.loop-i.invariant.count;
      small = omega arith;
    }

pub returns-in-None-clause-number : goal.returns-in-None-clause-number
returns-in-None-clause-number c =
    let here =
    run-other c.args.radix c.loop-i.number c.loop-i.i c.index-text-i.result c.args.text.now c.loop-i-test.true
    c.index-text-i.is c.in-None.ensures.value in
    let all = sym (ap (λ p. cut p.0) here) ∙ c.loop-i.invariant.number in omega (arith, all)

pub returns-in-None-clause-count : goal.returns-in-None-clause-count
returns-in-None-clause-count c =
    let here =
    run-other c.args.radix c.loop-i.number c.loop-i.i c.index-text-i.result c.args.text.now c.loop-i-test.true
    c.index-text-i.is c.in-None.ensures.value in
    let count = ap (λ p. p.1) here in omega (arith, count, c.loop-i.invariant.count)

pub returns-clause-number : goal.returns-clause-number
returns-clause-number c =
    let here = run-end c.args.radix c.loop-i.number c.loop-i.i c.args.text.now c.loop-i-test.false in
    let all = sym (ap (λ p. cut p.0) here) ∙ c.loop-i.invariant.number in omega (arith, all)

pub returns-clause-count : goal.returns-clause-count
returns-clause-count c =
    let here = run-end c.args.radix c.loop-i.number c.loop-i.i c.args.text.now c.loop-i-test.false in
    let count = ap (λ p. p.1) here in omega (arith, count, c.loop-i.invariant.count)
