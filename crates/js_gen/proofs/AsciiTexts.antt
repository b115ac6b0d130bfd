-- Texts that are ASCII: their bytes are their characters.
use Rattle.std.proofs.Common.{◌≡◌, ℕ, ◌+◌, ◌<◌, ◌^◌, zero, suc, List, [], ◌∷◌, ◌++◌, true, nat_lt, chars, decimal, refl, ap, ◌∙◌, arith}
use Rattle.std.specs.Str.{IsAscii}
use Rattle.std.proofs.lemmas.Bool.{and_parts, and_from, ltb-true}
use Rattle.std.proofs.lemmas.Str.{chars-IsAscii, chars-append, IsAscii-append, IsUtf8-from_ascii}
use Rattle.std.proofs.lemmas.Fmt.{IsAscii-decimal}
use Rattle.js_gen.specs.Ascii.{is_ascii}

pub IsAscii-from : (bytes : List ℕ) → is_ascii bytes ≡ true → IsAscii bytes
IsAscii-from [] e i = omega arith
IsAscii-from (c ∷ cs) e zero = ltb-true c 128 (and_parts _ _ e).0
IsAscii-from (c ∷ cs) e (suc i) = IsAscii-from cs (and_parts (nat_lt c 128) _ e).1 i

pub chars-ascii : (bytes : List ℕ) → is_ascii bytes ≡ true → chars bytes ≡ bytes
chars-ascii bytes e = chars-IsAscii bytes (IsAscii-from bytes e)

-- a name that ends in a number
pub chars-numbered : (start : List ℕ) (i : ℕ) → is_ascii start ≡ true → i < 2 ^ 32
    → chars (start ++ decimal i) ≡ start ++ decimal i
chars-numbered start i e small =
    chars-IsAscii (start ++ decimal i)
    (IsAscii-append start (decimal i) (IsAscii-from start e) (IsAscii-decimal i (omega arith)))

-- a text behind an ASCII one
pub chars-behind : (start text : List ℕ) → is_ascii start ≡ true → chars (start ++ text) ≡ start ++ chars text
chars-behind start text e =
    chars-append start text (IsUtf8-from_ascii start (IsAscii-from start e))
    ∙ ap (λ cs. cs ++ chars text) (chars-ascii start e)

-- a letter of a to z
pub chars-letter : (i : ℕ) → i < 26 → chars ((97 + i) ∷ []) ≡ (97 + i) ∷ []
chars-letter i small =
    let low : nat_lt (97 + i) 128 ≡ true = grind (arith, small) in
    chars-ascii ((97 + i) ∷ []) (and_from (nat_lt (97 + i) 128) true low refl)
