use Rattle.std.proofs.Common.{◌≡◌, List, ℕ, ◌++◌, length, option_map, chars, encode_utf8_all, string_bytes, IsUtf8}
use Rattle.std.specs.Str.Iter.{chars_rest}
use Rattle.js_json.specs.Reference.{token_of}
use Rattle.js_json.proofs.fragment.read_token.Given as goal

abbrev pub invariant-loop-token : goal.invariant-loop-token
invariant-loop-token l =
    IsUtf8 (chars_rest l.rest) × ((done : List ℕ) × (string_bytes l.token ≡ encode_utf8_all done)
    × (token_of (chars l.piece) ≡ option_map (λ t. done ++ t) (token_of (chars (chars_rest l.rest)))))

abbrev pub decreases-loop-token : goal.decreases-loop-token
decreases-loop-token l = length (chars_rest l.rest)
