use Rattle.std.proofs.Common.{◌<◌, ◌++◌, [], ◌∷◌, chars, encode_utf8, arith, ap, ◌∙◌}
use Rattle.js_gen.proofs.AsciiTexts.{chars-letter}
use Rattle.js_gen.proofs.words.letter.Goals as goal

pub returns : goal.returns
returns c =
    let empty = c.new-text.ensures.bytes in
    let letter = c.from.ensures in
    let low : c.from.result < 128 = omega (arith, letter, c.requires) in
    c.from_string.ensures
    ∙ ap chars (c.in_ok-push.ensures.bytes ∙ ap (λ bs. bs ++ encode_utf8 c.from.result) empty
    ∙ c.in_ok-push.ensures.ascii low ∙ ap (λ b. b ∷ []) letter)
    ∙ chars-letter c.args.place c.requires
