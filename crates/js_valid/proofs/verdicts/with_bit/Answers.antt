use Rattle.std.proofs.Common.{eq-eqb, ne_eqb, w64, sym, ◌∙◌, arith}
use Rattle.std.proofs.lemmas.Nat.Bits.{bit_at_set_same, bit_at_set_other, bit_at_clear_same, bit_at_clear_other}
use Rattle.js_valid.proofs.verdicts.with_bit.Goals as goal

pub returns-then-verdict-clause-here : goal.returns-then-verdict-clause-here
returns-then-verdict-clause-here c =
    eq-eqb _ 1 (bit_at_set_same w64 c.args.word c.args.place c.requires) ∙ sym c.if-verdict.true

pub returns-then-verdict-clause-others : goal.returns-then-verdict-clause-others
returns-then-verdict-clause-others c = λ i l apart. bit_at_set_other w64 c.args.word c.args.place c.requires i apart

pub returns-else-verdict-clause-here : goal.returns-else-verdict-clause-here
returns-else-verdict-clause-here c =
    ne_eqb _ 1 (omega (arith, bit_at_clear_same w64 c.args.word c.args.place c.requires)) ∙ sym c.if-verdict.false

pub returns-else-verdict-clause-others : goal.returns-else-verdict-clause-others
returns-else-verdict-clause-others c =
    λ i l apart. bit_at_clear_other w64 c.args.word c.args.place c.requires i l apart
