use Rattle.std.proofs.Common.{◌≡◌, ◌∙◌, ◌*◌, ◌/◌, ◌<◌, ◌^◌, [], ◌∷◌, arith, subst, sym}
use Rattle.number_groups.specs.Multiples.{IsLcm, lcm_of}
use Rattle.js_numbers.proofs.CommonMultiples.{gcd_positive, IsLcm-from_gcd, lcm_of-pair}
use Rattle.js_numbers.proofs.factors.lcm.Goals as goal
use Rattle.js_numbers.proofs.factors.lcm.Goals.{After-gcd}

the_lcm : (c : After-gcd) → IsLcm c.args.a c.args.b (c.args.a / c.gcd.result * c.args.b)
the_lcm c = IsLcm-from_gcd c.args.a c.args.b c.gcd.result c.requires.first.0 c.gcd.ensures

the_value : (c : After-gcd) → lcm_of (c.args.a ∷ c.args.b ∷ []) ≡ c.args.a / c.gcd.result * c.args.b
the_value c =
    lcm_of-pair c.args.a c.args.b (c.args.a / c.gcd.result * c.args.b) c.requires.first.0 c.requires.second.0
    (the_lcm c)

pub nonzero_div-a : goal.nonzero_div-a
nonzero_div-a c = gcd_positive c.args.a c.args.b c.gcd.result c.requires.first.0 c.gcd.ensures

pub returns-in_err-common-clause-value : goal.returns-in_err-common-clause-value
returns-in_err-common-clause-value c =
    let e = the_value (goal.at.returns-in_err-common-clause-value c).After-gcd in
    rw c.from_residual.ensures (λ l. c.in_err-common.ensures (omega (arith, e)))

pub returns-then-common-clause-value : goal.returns-then-common-clause-value
returns-then-common-clause-value c =
    let e = the_value (goal.at.returns-then-common-clause-value c).After-gcd in
    let same = c.in_ok-common.ensures.1 ∙ sym e in
    (subst (λ n. n < 2 ^ 127) same c.if-common.true, same)

pub returns-then-common-clause-least : goal.returns-then-common-clause-least
returns-then-common-clause-least c =
    let h = the_lcm (goal.at.returns-then-common-clause-least c).After-gcd in
    subst (λ n. IsLcm c.args.a c.args.b n) (sym c.in_ok-common.ensures.1) h

pub returns-else-common-clause-value : goal.returns-else-common-clause-value
returns-else-common-clause-value c =
    let e = the_value (goal.at.returns-else-common-clause-value c).After-gcd in
    λ l. omega (arith, e, c.in_ok-common.ensures.1)
