use Rattle.std.proofs.Common.{chars, ap, ◌∙◌}
use Rattle.js_gen.proofs.AsciiTexts.{chars-numbered}
use Rattle.js_gen.proofs.words.numbered.Goals as goal

pub returns : goal.returns
returns c =
    c.from_string.ensures ∙ ap chars c.in_ok-format.ensures.ok
    ∙ chars-numbered c.args.start.now c.args.number c.requires c.ranges.number.fits
