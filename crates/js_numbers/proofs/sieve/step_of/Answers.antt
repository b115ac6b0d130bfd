use Rattle.std.proofs.Common.{ap, sym, ◌∙◌, arith}
use Rattle.number_groups.specs.Multiples.{is_multiple}
use Rattle.js_numbers.proofs.CommonMultiples.{gcd_positive}
use Rattle.js_numbers.proofs.SieveLaws.{step_positive, strikes_steps}
use Rattle.js_numbers.proofs.sieve.step_of.Goals as goal

pub nonzero_div-result : goal.nonzero_div-result
nonzero_div-result c =
    gcd_positive c.from-divisor.result c.args.m c.gcd.result (omega (arith, c.from-divisor.ensures)) c.gcd.ensures

pub returns-clause-positive : goal.returns-clause-positive
returns-clause-positive c =
    step_positive c.from-divisor.result c.args.m c.gcd.result (omega (arith, c.from-divisor.ensures)) c.gcd.ensures

pub returns-clause-strikes : goal.returns-clause-strikes
returns-clause-strikes c = λ x e.
    ap (λ b. is_multiple b x) (sym c.from-divisor.ensures)
    ∙ strikes_steps c.from-divisor.result c.args.m c.gcd.result x
    (omega (arith, c.from-divisor.ensures)) c.gcd.ensures e
