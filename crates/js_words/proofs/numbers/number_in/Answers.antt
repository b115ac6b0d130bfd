use Rattle.std.proofs.Common.{◌≡◌, ◌∙◌, true, sym, inl, inr, arith}
use Rattle.js_words.specs.Numbers as N
use Rattle.js_words.proofs.NumbersLemmas.{in_range, out_of_range, over, read-err, read-ok}
use Rattle.js_words.proofs.numbers.number_in.Goals as goal

pub returns-then-number-high : goal.returns-then-number-high
returns-then-number-high c =
    let text = c.args.text.now in
    let plain : N.is_plain_decimal text ≡ true = sym c.is_plain_decimal.ensures ∙ c.if-not-is_plain_decimal.false in
    in_range c.args.low c.args.high c.in-Ok.number text plain
    (read-ok text c.parse.result c.parse.ensures.value.0 plain c.in-Ok.number c.in-Ok.is)
    c.if-low-number.true c.if-number-high.true

pub returns-else-low-number : goal.returns-else-low-number
returns-else-low-number c =
    let text = c.args.text.now in
    let plain : N.is_plain_decimal text ≡ true = sym c.is_plain_decimal.ensures ∙ c.if-not-is_plain_decimal.false in
    let is = read-ok text c.parse.result c.parse.ensures.value.0 plain c.in-Ok.number c.in-Ok.is in
    out_of_range c.args.low c.args.high c.in-Ok.number text is
    (elim c.else-low-number.either [ inl h ↦ inr h.1 | inr h ↦ inl h ])

pub returns-in-Err : goal.returns-in-Err
returns-in-Err c =
    let text = c.args.text.now in
    let plain : N.is_plain_decimal text ≡ true = sym c.is_plain_decimal.ensures ∙ c.if-not-is_plain_decimal.false in
    let large = read-err text c.parse.result c.parse.ensures.value.0 plain c.in-Err.field-0 c.in-Err.is in
    over c.args.low c.args.high text (omega (arith, large))
