use Rattle.std.proofs.Common.{◌≡◌, ◌∙◌, ◌<◌, ◌^◌, Some, ap, sym, subst, pos, neg_ℤ, ◌-ℤ◌, to_z, of_z, unsigned_abs, arith}
use Rattle.std.specs.Int.{w128}
use Rattle.std.proofs.lemmas.Int.{ints}
use Rattle.number_groups.specs.Outcome.{multiple_from}
use Rattle.js_numbers.proofs.Sizes.{opposite_is, sized-Some}
use Rattle.js_numbers.proofs.candidates.multiple_down.Goals as goal

pub returns : goal.returns
returns c =
    let arg : to_z w128 (of_z w128 (pos 0 -ℤ to_z w128 (of_z w128 c.args.high))) ≡ neg_ℤ c.args.high =
    omega (arith, ints) in
    let y = c.in_ok-opposite.opposite in
    let (same, small) = sized-Some (multiple_from c.args.m _ c.args.k) y (sym c.in_ok-opposite.ensures) in
    let fits : unsigned_abs y < 2 ^ 127 = subst (λ z. unsigned_abs z < 2 ^ 127) same small in
    let back : to_z w128 (of_z w128 (pos 0 -ℤ to_z w128 (of_z w128 y))) ≡ neg_ℤ y = omega (arith, ints) in
    ap Some back ∙ sym (opposite_is y _ c.args.high c.args.m c.args.k arg (sym c.in_ok-opposite.ensures))
