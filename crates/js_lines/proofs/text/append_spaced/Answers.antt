-- The digit is its own byte.
use Rattle.std.proofs.Common.{◌<◌, ◌++◌, [], ◌∷◌, append_assoc, encode_utf8, string_bytes, arith, ap, sym, ◌∙◌}
use Rattle.std.specs.Fmt.{decimal}
use Rattle.std.proofs.lemmas.Fmt.{decimal_digit}
use Rattle.js_lines.proofs.text.append_spaced.Goals as goal

pub returns : goal.returns
returns c =
    let old = string_bytes c.args.out.now in
    let number = c.args.number in
    let small : number < 10 = (let f = c.if-number-ge10.false in omega (arith, f)) in
    let digit = c.from.ensures in
    let low : c.from.result < 128 = omega (arith, digit, small) in
    c.in_ok-push-2.ensures.bytes
    ∙ ap (λ bs. bs ++ encode_utf8 c.from.result)
    (c.in_ok-push.ensures.bytes ∙ ap (λ bs. old ++ bs) (c.in_ok-push.ensures.ascii (omega arith)))
    ∙ ap (λ bs. (old ++ 32 ∷ []) ++ bs)
    (c.in_ok-push-2.ensures.ascii low ∙ ap (λ b. b ∷ []) digit ∙ sym (decimal_digit number small))
    ∙ append_assoc old (32 ∷ []) (decimal number)
