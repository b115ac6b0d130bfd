use Rattle.std.proofs.Common.{arith, ◌≡◌, ◌+ℤ◌, ◌*◌, to_z, of_z, to_z-of_z}
use Rattle.std.specs.Int.{w128}
use Rattle.std.proofs.lemmas.Int.{ints}
use Rattle.js_numbers.proofs.Sizes.{multiple_reached}
use Rattle.js_numbers.proofs.candidates.multiple_from.Goals as goal

pub returns : goal.returns
returns c =
    let first : to_z w128 (of_z w128 c.in_ok-first.first) ≡ c.args.low +ℤ c.gap.result =
    omega (arith, ints, c.in_ok-first.ensures) in
    let past : c.in_ok-past.past ≡ c.args.k * c.args.m = c.in_ok-past.ensures.1 in
    let gap = rw (to_z-of_z c.ranges.low) at c.gap.ensures in
    multiple_reached c.checked_add_unsigned.result _ c.args.low c.gap.result c.args.k c.args.m
    c.in_ok-past.past
    c.requires.near gap first past c.checked_add_unsigned.ensures
