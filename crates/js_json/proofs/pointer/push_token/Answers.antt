use Rattle.std.proofs.Common.{encode_utf8_all, ◌++◌, string_bytes, sym, ap, ◌∙◌, map-id}
use Rattle.std.proofs.lemmas.Iterator.{YieldsList-from_chars}
use Rattle.std.proofs.lemmas.Iterator.Consumers.{YieldsList-end}
use Rattle.js_json.specs.Pointer.{escaped}
use Rattle.js_json.proofs.PointerLemmas.{escaped_more}
use Rattle.js_json.proofs.pointer.push_token.Goals as goal

pub loop-c-preserved : goal.loop-c-preserved
loop-c-preserved c =
    escaped_more _ _ _ c.loop-c.yielded c.in-Some.c c.loop-c.invariant c.in_ok-push_escaped.ensures

pub returns : goal.returns
returns c =
    let token = YieldsList-from_chars c.args.token.now c.utf8.token cc in
    let ended = c.in-None.is in
    let end = YieldsList-end token c.loop-c.yielded _ c.loop-c.yielded_by _ _ ended c.next.ensures.steps in
    let all = sym (map-id c.loop-c.yielded) ∙ end.0 in
    c.loop-c.invariant ∙ ap (λ cs. string_bytes c.args.out.now ++ encode_utf8_all (escaped cs)) all
