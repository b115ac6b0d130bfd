use Rattle.std.proofs.Common.{◌≡◌, ◌++◌, encode_utf8_all, string_bytes}
use Rattle.js_json.specs.Pointer.{escaped}
use Rattle.js_json.proofs.pointer.push_token.Given as goal

abbrev pub invariant-loop-c : goal.invariant-loop-c
invariant-loop-c l = string_bytes l.out ≡ string_bytes l.fn.out ++ encode_utf8_all (escaped l.yielded)
