use Rattle.std.proofs.Common.{sym, ◌∙◌, arith}
use Rattle.schema_laws.proofs.Tokens.{index_token-decimal}
use Rattle.js_pointers.specs.TokensView.{names_of}
use Rattle.js_pointers.proofs.WordLemmas.{word-index, word-name}
use Rattle.js_pointers.proofs.tokens.Tokens.token.Goals as goal

pub returns-then-number-lt-FIRST_NAME : goal.returns-then-number-lt-FIRST_NAME
returns-then-number-lt-FIRST_NAME c =
    let low = c.if-number-lt-FIRST_NAME.true in
    let fits = c.ranges.number.fits in
    index_token-decimal c.args.number (omega (arith, fits))
    ∙ sym (word-index (names_of c.args.self.now) c.args.number (grind (arith, low)))

pub returns : goal.returns
returns c =
    let high = c.if-number-lt-FIRST_NAME.false in
    c.name.ensures ∙ sym (word-name (names_of c.args.self.now) c.args.number (grind (arith, high)))
