-- A string's text is the one that JSON has for its bytes.
use Rattle.std.proofs.Common.{◌≡◌, inl, inr, ℕ, suc, ◌<◌, ◌≤◌, ◌||◌, ◌/◌, ◌%◌, List, [], ◌∷◌, ◌++◌, length, get_or, flat_map, Bool, true, false, cond, nat_lt, nat_eq, codes, encode_utf8_all, String, string_bytes, refl, sym, ap, ◌∙◌, arith, append-nil, rules}
use Rattle.std.specs.declared.alloc.Global.{Global}
use Rattle.std.specs.Char.{digit_char, encode_utf8}
use Rattle.std.proofs.lemmas.Bool.{cases_lt, ne_eqb, le-ltb}
use Rattle.std.proofs.lemmas.Grind.{flat_map-append}
use Rattle.std.proofs.lemmas.Str.{encode_ascii, inside_one}
use Rattle.json.specs.Print.{escape_byte, escape, quoted}
use Rattle.json.proofs.Printed.Strings.{escape_byte_plain}
use Rattle.serde_json.specs.Data.{string}
use Rattle.serde_json.specs.View.{view}
use Rattle.serde_json.specs.Written.{compact_text, has_float}
use Rattle.serde_json.specs.declared.value.Value.{the_lemmas}
use Rattle.serde_json.specs.declared.value.Value.TheVariants as V
use Rattle.document_texts.specs.Scalars.{character_text, string_text}

-- ---- bytes that are not ASCII are kept as they are

high_bytes : (c : ℕ) → 128 ≤ c → (k : ℕ) → k < length (encode_utf8 c) → 128 ≤ get_or (encode_utf8 c) k 0
high_bytes c big k below = elim (cases_lt (get_or (encode_utf8 c) k 0) 128) [
  | inl low ↦ absurd (omega (arith, inside_one c [] (encode_utf8 c) k (sym (append-nil _)) below low))
  | inr h ↦ h
]

escape-high : (xs : List ℕ) → ((k : ℕ) → k < length xs → 128 ≤ get_or xs k 0) → escape xs ≡ xs
escape-high [] h = refl
escape-high (x ∷ xs) h =
    let high : 128 ≤ x = h 0 (omega arith) in
    ap (λ ys. ys ++ escape xs) (escape_byte_plain x (λ e. omega arith) (λ e. omega arith) (omega arith))
    ∙ ap (λ ys. x ∷ ys) (escape-high xs (λ k l. h (suc k) (omega arith)))

-- ---- a character's escape, by the tests that both definitions make

by_tests : (c : ℕ) (q b f n r t k : Bool) (control whole : List ℕ) → (q ≡ true → nat_lt 0 c ≡ true)
    → cond (nat_lt 0 (cond q c (cond b 98 (cond f 102 (cond n 110 (cond r 114 (cond t 116 0)))))))
    (92 ∷ cond q c (cond b 98 (cond f 102 (cond n 110 (cond r 114 (cond t 116 0))))) ∷ []) (cond k control whole)
    ≡ cond q (92 ∷ c ∷ []) (cond b (codes "\\b") (cond f (codes "\\f") (cond n (codes "\\n") (cond r (codes "\\r")
    (cond t (codes "\\t") (cond k control whole))))))
by_tests c true b f n r t k control whole h = rw (h refl) refl
by_tests c false true f n r t k control whole h = refl
by_tests c false false true n r t k control whole h = refl
by_tests c false false false true r t k control whole h = refl
by_tests c false false false false true t k control whole h = refl
by_tests c false false false false false true k control whole h = refl
by_tests c false false false false false false k control whole h = refl

positive : (c : ℕ) → (nat_eq c 34 || nat_eq c 92) ≡ true → nat_lt 0 c ≡ true
positive c h = grind (arith, h)

-- a character's text, where `whole` is its UTF-8
abbrev tested : ℕ → List ℕ → List ℕ
tested c whole =
    cond (nat_eq c 34 || nat_eq c 92) (92 ∷ c ∷ [])
    (cond (nat_eq c 8) (codes "\\b")
    (cond (nat_eq c 12) (codes "\\f")
    (cond (nat_eq c 10) (codes "\\n")
    (cond (nat_eq c 13) (codes "\\r") (cond (nat_eq c 9) (codes "\\t")
    (cond (nat_lt c 32) (codes "\\u00" ++ digit_char (c / 16) ∷ digit_char (c % 16) ∷ []) whole))))))

escape-ascii : (c : ℕ) → c < 128 → escape (encode_utf8 c) ≡ character_text c
unfolding escape_byte
escape-ascii c l =
    ap escape (encode_ascii c l) ∙ append-nil (escape_byte c)
    ∙ by_tests c (nat_eq c 34 || nat_eq c 92) (nat_eq c 8) (nat_eq c 12) (nat_eq c 10) (nat_eq c 13) (nat_eq c 9)
    (nat_lt c 32) (codes "\\u00" ++ digit_char (c / 16) ∷ digit_char (c % 16) ∷ []) (c ∷ []) (positive c)
    ∙ ap (tested c) (sym (encode_ascii c l))

character-high : (c : ℕ) → 128 ≤ c → encode_utf8 c ≡ character_text c
character-high c h =
    rw (
      ne_eqb c 34 (λ e. omega arith),
      ne_eqb c 92 (λ e. omega arith),
      ne_eqb c 8 (λ e. omega arith),
      ne_eqb c 12 (λ e. omega arith),
      ne_eqb c 10 (λ e. omega arith),
      ne_eqb c 13 (λ e. omega arith),
      ne_eqb c 9 (λ e. omega arith),
      le-ltb c 32 (omega arith),
    ) refl

escape-character : (c : ℕ) → escape (encode_utf8 c) ≡ character_text c
escape-character c = elim (cases_lt c 128) [
  | inl low ↦ escape-ascii c low
  | inr high ↦ escape-high (encode_utf8 c) (high_bytes c high) ∙ character-high c high
]

escape-all : (s : List ℕ) → escape (encode_utf8_all s) ≡ flat_map character_text s
escape-all [] = refl
escape-all (c ∷ s) =
    flat_map-append escape_byte (encode_utf8 c) (encode_utf8_all s)
    ∙ ap (λ ys. ys ++ escape (encode_utf8_all s)) (escape-character c)
    ∙ ap (λ ys. character_text c ++ ys) (escape-all s)

-- the quoted bytes of a string are its text by the definition
pub string-quoted : (s : List ℕ) → quoted (encode_utf8_all s) ≡ string_text s
string-quoted s = ap (λ ys. 34 ∷ ys ++ 34 ∷ []) (escape-all s)

-- what is written for a value that is a text

view-String : (s : String Global) → view (V.String s) ≡ string (string_bytes s)
view-String s = search (rules, the_lemmas)

pub string-written : (written text : List ℕ) (plain : String Global)
    → string_bytes plain ≡ encode_utf8_all text
    → (has_float (view (V.String plain)) ≡ false → written ≡ compact_text (view (V.String plain)))
    → written ≡ string_text text
string-written written text plain is print =
    print (ap has_float (view-String plain)) ∙ ap compact_text (view-String plain) ∙ ap quoted is ∙ string-quoted text
