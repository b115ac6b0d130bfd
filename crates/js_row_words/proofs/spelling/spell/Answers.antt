use Rattle.std.proofs.Common.{◌≡◌, ◌++◌, length, encode_utf8_all, reverse, string_bytes, ap, ◌∙◌, subst, arith}
use Rattle.js_row_words.proofs.Letters.{letter_more, text_is, none_left}
use Rattle.js_row_words.proofs.spelling.spell.Goals as goal

pub loop-letter-init : goal.loop-letter-init
loop-letter-init c = ap (λ z. z ++ encode_utf8_all (reverse c.args.letters.items)) c.in_ok-text.ensures.bytes

pub loop-letter-preserved : goal.loop-letter-preserved
loop-letter-preserved c = letter_more (string_bytes c.loop-letter.text) (string_bytes c.push.new.self)
    c.loop-letter.letters.items c.pop.new.self.items c.in-Some.letter (encode_utf8_all (reverse c.args.letters.items))
    c.in_ok-push.ensures.bytes c.in-Some.ensures.items c.loop-letter.invariant

pub returns : goal.returns
returns c =
    let none : length c.loop-letter.letters.items ≡ 0 = omega (arith, c.in_default.ensures.cases.0) in
    c.from_string.ensures
    ∙ text_is (string_bytes c.loop-letter.text) (reverse c.args.letters.items)
    (subst (λ z. string_bytes c.loop-letter.text ++ encode_utf8_all (reverse z)
    ≡ encode_utf8_all (reverse c.args.letters.items)) (none_left c.loop-letter.letters.items none)
    c.loop-letter.invariant)
    c.requires
