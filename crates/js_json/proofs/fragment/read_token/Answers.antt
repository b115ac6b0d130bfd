use Rattle.std.proofs.Common.{Some, string_bytes, ap, sym, ◌∙◌}
use Rattle.std.proofs.lemmas.Str.{IsUtf8-string_bytes}
use Rattle.js_json.proofs.TokensLemmas.{token_more, token_all}
use Rattle.js_json.proofs.fragment.read_token.Goals as goal

pub loop-token-preserved : goal.loop-token-preserved
loop-token-preserved c =
    token_more c.args.piece.now _ _ _ _ c.in-Some.c c.in_ok-c.field-0 c.in-Some.is c.in_ok-c.ensures
    c.in_ok-push.ensures.bytes c.loop-token.invariant

pub returns : goal.returns
returns c =
    let bytes = string_bytes c.loop-token.token in
    token_all c.args.piece.now _ _ bytes c.in_ok-c.field-0 c.in_default.is c.in_ok-c.ensures
    (IsUtf8-string_bytes c.loop-token.token) c.loop-token.invariant
    ∙ ap Some (sym c.from_string.ensures)
