use Rattle.std.proofs.Common.{◌++◌, encode_utf8_all, string_bytes, ap, ◌∙◌}
use Rattle.std.proofs.lemmas.List.{take_all}
use Rattle.js_json.specs.Pointer.{escaped, pointer_text}
use Rattle.js_json.proofs.PointerLemmas.{pointer_text_more, quoted_written}
use Rattle.js_json.proofs.pointer.Pointer.text.Goals as goal

pub loop-token-preserved : goal.loop-token-preserved
loop-token-preserved c =
    pointer_text_more _ _ _ _ c.loop-token.token-index c.token-item.result c.loop-token-test.true
    c.token-item.is c.loop-token.invariant
    c.in_ok-push.ensures.bytes
    (c.in_ok-push_token.ensures
    ∙ ap (λ t. string_bytes c.push.new.self ++ encode_utf8_all (escaped t)) c.as_text.ensures.text)

pub returns : goal.returns
returns c =
    let tokens = take_all c.loop-token.token-index _ c.loop-token-test.false
    ∙ c.deref-token-items.ensures.value ∙ c.self.view_is in
    quoted_written _ (pointer_text c.args.self.now) c.loop-token.plain
    (c.loop-token.invariant
    ∙ ap (λ ts. encode_utf8_all (pointer_text ts)) tokens) c.in_ok-to_string.ensures.text
