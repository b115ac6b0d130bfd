use Rattle.std.proofs.Common.{◌+◌, ◌∙◌, ◌++◌, length, ap, arith}
use Rattle.state_laws.specs.Flow.{flag_at}
use Rattle.js_pattern_positions.proofs.CopiesLemmas.{flags_of-copies}
use Rattle.js_pattern_positions.proofs.runs.push_part.Goals as goal

pub returns-clause-flags : goal.returns-clause-flags
returns-clause-flags c =
    c.push_bits.ensures.flags
    ∙ ap (λ z. c.args.reads.now.flags ++ z)
    (flags_of-copies (flag_at c.args.read.now.flags) c.args.count (length c.args.reads.now.flags) c.bits-before.result
    c.from.result c.args.begins c.requires.some (omega (arith, c.requires.word))
    (λ i l. c.bits-before.ensures.bits i l
    ∙ ap (λ k. flag_at c.args.read.now.flags (k + i)) c.len.ensures)
    c.from.ensures)
