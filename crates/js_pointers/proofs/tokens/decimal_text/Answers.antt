use Rattle.std.proofs.Common.{chars, ap, ◌∙◌}
use Rattle.js_json.proofs.PointerLemmas.{chars-decimal}
use Rattle.schema_laws.proofs.Tokens.{index_token-decimal}
use Rattle.js_pointers.proofs.tokens.decimal_text.Goals as goal

pub returns : goal.returns
returns c =
    c.from_string.ensures ∙ ap chars c.in_ok-text.ensures.ok
    ∙ chars-decimal c.args.number c.ranges.number.fits ∙ index_token-decimal c.args.number c.ranges.number.fits
