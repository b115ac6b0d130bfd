-- JSON pointers (RFC 6901), as texts of scalar values, and JSON strings as they are printed.
use Rattle.std.specs.Prelude.{ℕ, List, [], ◌∷◌, ◌==◌, flat_map, if◌then◌else◌, codes, encode_utf8_all}
use Rattle.serde_json.specs.Data.{string}
use Rattle.serde_json.specs.Written.{compact_text}

-- a character of a token: `~` is written `~0`, and `/` is written `~1`
abbrev pub escaped_character : ℕ → List ℕ
escaped_character c = if c == 126 then codes "~0" else (if c == 47 then codes "~1" else c ∷ [])

abbrev pub escaped : List ℕ → List ℕ
escaped token = flat_map escaped_character token

-- each token with a `/` before it; nothing, for the whole value
abbrev pub pointer_text : List (List ℕ) → List ℕ
pointer_text tokens = flat_map (λ token. 47 ∷ escaped token) tokens

-- the bytes of the text as a JSON string, with the escapes that compact JSON has
abbrev pub quoted : List ℕ → List ℕ
quoted text = compact_text (string (encode_utf8_all text))
