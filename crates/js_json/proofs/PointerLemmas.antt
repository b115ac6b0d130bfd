-- A pointer's text, one character and one token at a time.
use Rattle.std.proofs.Common.{◌≡◌, ℕ, ◌+◌, ◌<◌, ◌^◌, List, [], ◌∷◌, ◌++◌, length, take, get_or, encode_utf8_all, chars, decimal, String, string_bytes, false, refl, sym, ap, ◌∙◌, append_assoc, rules}
use Rattle.std.specs.declared.alloc.Global.{Global}
use Rattle.std.specs.Char.{encode_utf8}
use Rattle.std.proofs.lemmas.Fmt.{IsAscii-decimal}
use Rattle.std.proofs.lemmas.Grind.{flat_map-append}
use Rattle.std.proofs.lemmas.List.{append-nil, take_more}
use Rattle.std.proofs.lemmas.Str.{encodes-append, chars-IsAscii}
use Rattle.serde_json.specs.Data.{string}
use Rattle.serde_json.specs.View.{view}
use Rattle.serde_json.specs.Written.{compact_text, has_float}
use Rattle.serde_json.specs.declared.value.Value.{the_lemmas}
use Rattle.serde_json.specs.declared.value.Value.TheVariants as V
use Rattle.js_json.specs.Pointer.{escaped_character, escaped, pointer_text, quoted}

-- one more character of a token
pub escaped_more : (old out new done : List ℕ) (c : ℕ) → out ≡ old ++ encode_utf8_all (escaped done)
    → new ≡ out ++ encode_utf8_all (escaped_character c)
    → new ≡ old ++ encode_utf8_all (escaped (done ++ c ∷ []))
escaped_more old out new done c before more =
    rw (more, before, flat_map-append, append-nil, encodes-append, append_assoc) refl

-- one more token
pub pointer_text_more : (before slash after : List ℕ) (tokens : List (List ℕ)) (i : ℕ) (token : List ℕ)
    → i < length tokens
    → token ≡ get_or tokens i token → before ≡ encode_utf8_all (pointer_text (take i tokens))
    → slash ≡ before ++ encode_utf8 47
    → after ≡ slash ++ encode_utf8_all (escaped token)
    → after ≡ encode_utf8_all (pointer_text (take (i + 1) tokens))
pointer_text_more before slash after tokens i token within is done slashed written =
    let more : take (i + 1) tokens ≡ take i tokens ++ token ∷ [] =
    take_more tokens i token within ∙ ap (λ t. take i tokens ++ t ∷ []) (sym is) in
    rw (more, written, slashed, done, flat_map-append, append-nil, encodes-append, append_assoc) refl

-- the digits of an index are its characters
pub chars-decimal : (n : ℕ) → n < 2 ^ 64 → chars (decimal n) ≡ decimal n
chars-decimal n small = chars-IsAscii (decimal n) (IsAscii-decimal n small)

view-String : (s : String Global) → view (V.String s) ≡ string (string_bytes s)
view-String s = search (rules, the_lemmas)

-- what is written for a value that is a text
pub quoted_written : (written text : List ℕ) (plain : String Global)
    → string_bytes plain ≡ encode_utf8_all text
    → (has_float (view (V.String plain)) ≡ false → written ≡ compact_text (view (V.String plain)))
    → written ≡ quoted text
quoted_written written text plain is print =
    print (ap has_float (view-String plain)) ∙ ap compact_text (view-String plain)
    ∙ ap (λ bytes. compact_text (string bytes)) is
