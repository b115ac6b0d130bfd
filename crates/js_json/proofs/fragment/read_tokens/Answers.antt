use Rattle.std.proofs.Common.{chars, map, lit<, ap, ◌∙◌}
use Rattle.std.proofs.lemmas.Iterator.Consumers.{YieldsList-turn, YieldsList-end}
use Rattle.std.proofs.lemmas.Iterator.Splits.{YieldsList-from_str_split}
use Rattle.js_json.specs.Reference.{token_of, tokens_between}
use Rattle.js_json.proofs.StepsLemmas.{refused_up}
use Rattle.js_json.proofs.PiecesLemmas.{pieces-chars, tokens_between_all, tokens_between_none}
use Rattle.js_json.proofs.fragment.read_tokens.Goals as goal

pub returns-in_err-token : goal.returns-in_err-token
returns-in_err-token c =
    let split = YieldsList-from_str_split 47 c.args.text.now (lit< tt) (cc) (cc) (cc) in
    let l = c.loop-piece in
    let turn = YieldsList-turn split l.yielded _ l.yielded_by _ _ c.in-Some.piece c.in-Some.is c.next.ensures.steps in
    let pieces = pieces-chars c.args.text.now c.utf8.text in
    refused_up (token_of (chars c.in-Some.piece.now)) (tokens_between (chars c.args.text.now)) c.in_err-token.field-0.0
    c.from_residual.result c.from_residual.ensures.1
    (tokens_between_none (chars c.args.text.now) _ _ c.in-Some.piece.now pieces turn)
    c.in_err-token.ensures

pub returns : goal.returns
returns c =
    let split = YieldsList-from_str_split 47 c.args.text.now (lit< tt) (cc) (cc) (cc) in
    let l = c.loop-piece in
    let end = YieldsList-end split l.yielded _ l.yielded_by _ _ c.in-None.is c.next.ensures.steps in
    let pieces = pieces-chars c.args.text.now c.utf8.text in
    tokens_between_all _ (chars c.args.text.now) _ (ap (map chars) end.0 ∙ pieces) l.invariant
