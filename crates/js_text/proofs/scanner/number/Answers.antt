-- Digits that say too much say no number of 32 bits.
use Rattle.std.proofs.Common.{arith, sym, ◌∙◌}
use Rattle.document_text_laws.proofs.NumberLaws.{number_on-digit}
use Rattle.js_text.proofs.scanner.number.Goals as goal

pub returns-then-larger-from-clause-value : goal.returns-then-larger-from-clause-value
returns-then-larger-from-clause-value c n rest e l =
    let least = number_on-digit c.loop-left.value n c.loop-left.left.now rest c.in-len1-up.len_at_least
    (sym c.is_ascii_digit.ensures.value ∙ c.if-is_ascii_digit.true) (c.loop-left.invariant.same ∙ e) in
    absurd (omega (arith, least, l, c.if-larger-from.true))
