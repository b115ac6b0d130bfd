use Rattle.std.proofs.Common.{◌≡◌, take, encode_utf8_all, string_bytes}
use Rattle.js_json.specs.Pointer.{pointer_text}
use Rattle.js_json.proofs.pointer.Pointer.text.Given as goal

abbrev pub invariant-loop-token : goal.invariant-loop-token
invariant-loop-token l =
    string_bytes l.plain ≡ encode_utf8_all (pointer_text (take l.token-index l.token-items))
