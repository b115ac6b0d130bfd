use Rattle.std.proofs.Common.{◌∙◌, ◌++◌, ap, arith}
use Rattle.js_pattern_positions.proofs.OptionsLemmas.{flags_of-ones, ones-small}
use Rattle.js_pattern_positions.proofs.options.push_ones.Goals as goal

pub push_bits-requires-clause-small : goal.push_bits-requires-clause-small
push_bits-requires-clause-small c = ones-small c.args.count c.requires.some (omega (arith, c.requires.word))

pub returns-clause-flags : goal.returns-clause-flags
returns-clause-flags c =
    c.push_bits.ensures.flags
    ∙ ap (λ z. c.args.reads.now.flags ++ z) (flags_of-ones c.args.count (omega (arith, c.requires.word)))
