use Rattle.std.proofs.Common.{arith, ◌≡◌, ◌∙◌, to_z, of_z}
use Rattle.std.specs.Int.{w128}
use Rattle.std.proofs.lemmas.Int.{ints}
use Rattle.js_numbers.proofs.Sizes.{gap_is}
use Rattle.js_numbers.proofs.candidates.gap.Goals as goal

pub returns : goal.returns
returns c =
    let same : to_z w128 (of_z w128 c.rem_euclid.result) ≡ c.rem_euclid.result = omega (arith, ints) in
    same ∙ gap_is c.rem_euclid.result c.args.low c.args.m c.requires.near c.requires.step.1
    c.rem_euclid.ensures.value
