use Rattle.std.proofs.Common.{eq-eqb, ne_eqb, w64, sym, ◌∙◌, arith}
use Rattle.std.proofs.lemmas.Nat.Bits.{bit_at_set_same, bit_at_set_other, bit_at_clear_same, bit_at_clear_other}
use Rattle.js_pattern_positions.proofs.position_set.with_bit.Goals as goal

pub returns-then-flag-clause-here : goal.returns-then-flag-clause-here
returns-then-flag-clause-here c =
    eq-eqb _ 1 (bit_at_set_same w64 c.args.word c.args.place c.requires) ∙ sym c.if-flag.true

pub returns-then-flag-clause-others : goal.returns-then-flag-clause-others
returns-then-flag-clause-others c = λ i l apart. bit_at_set_other w64 c.args.word c.args.place c.requires i apart

pub returns-else-flag-clause-here : goal.returns-else-flag-clause-here
returns-else-flag-clause-here c =
    ne_eqb _ 1 (omega (arith, bit_at_clear_same w64 c.args.word c.args.place c.requires)) ∙ sym c.if-flag.false

pub returns-else-flag-clause-others : goal.returns-else-flag-clause-others
returns-else-flag-clause-others c =
    λ i l apart. bit_at_clear_other w64 c.args.word c.args.place c.requires i l apart
