use Rattle.std.proofs.Common.{◌≡◌, pos, neg_ℤ, ◌-ℤ◌, to_z, of_z, unsigned_abs, ap, ◌∙◌, get_or, false, ◌||◌, arith}
use Rattle.std.specs.Int.{w128, int_div_euclid, int_rem_euclid}
use Rattle.std.proofs.lemmas.Int.{ints}
use Rattle.js_numbers.proofs.Sizes.{abs-neg, int_rem_euclid-nonnegative}
use Rattle.js_numbers.proofs.SieveLaws.{is_on-multiple_from, factor, factor_small}
use Rattle.js_numbers.proofs.sieve.mark_up.Goals as goal

pub returns : goal.returns
returns c = λ k l.
    let m = c.args.m in
    let low = c.args.low in
    let s = c.args.step in
    let d = c.div_euclid-start.result in
    let r = c.gap.result in
    let opposite : to_z w128 (of_z w128 (pos 0 -ℤ to_z w128 (of_z w128 low))) ≡ neg_ℤ low = omega (arith, ints) in
    let by : to_z w128 m ≡ pos m = omega (arith, ints) in
    let quotient : d ≡ int_div_euclid (neg_ℤ low) (pos m) =
    c.div_euclid-start.ensures ∙ ap (λ z. int_div_euclid z (to_z w128 m)) opposite
    ∙ ap (int_div_euclid (neg_ℤ low)) by in
    let small = factor_small m low in
    let back : to_z w128 (of_z w128 (pos 0 -ℤ to_z w128 (of_z w128 d))) ≡ neg_ℤ d =
    omega (arith, ints, abs-neg d, ap (λ z. unsigned_abs (neg_ℤ z)) quotient) in
    let start : to_z w128 (of_z w128 (pos 0 -ℤ to_z w128 (of_z w128 d))) ≡ factor m low =
    back ∙ ap neg_ℤ quotient in
    let gap : r ≡ int_rem_euclid (neg_ℤ (factor m low)) (pos s) =
    c.gap.ensures ∙ ap (λ z. int_rem_euclid (neg_ℤ z) (pos s)) start in
    let above = int_rem_euclid-nonnegative (neg_ℤ (factor m low)) (pos s) in
    let first = unsigned_abs (to_z w128 (of_z w128 r)) in
    let cast : pos first ≡ r = omega (arith, ints, above, gap) in
    c.mark_each.ensures k (omega (arith, l, c.requires.size))
    ∙ ap (λ b. get_or c.args.marks.now k false || b)
    (is_on-multiple_from m s k first low c.requires.multiple.0 c.requires.forward.0 (cast ∙ gap))
