-- A number of 128 bits is what the program reads of its text.
use Rattle.std.proofs.Common.{◌≡◌, ℕ, zero, suc, ◌^◌, ◌<◌, ◌≤◌, ℤ, pos, negsuc, neg_ℤ, List, ◌∷◌, true, Result, Ok, IsAscii, IsUtf8, refl, sym, ap, ◌∙◌, subst, arith}
use mir.Syntax.{Width}
use mir.Val.{hbits}
use Rattle.std.specs.Fmt.{decimal, signed_decimal}
use Rattle.std.specs.Str.Parse.{ParsesSigned, digits_value}
use Rattle.std.proofs.lemmas.Bool.{ltb-true}
use Rattle.std.proofs.lemmas.Fmt.{decimal_is_IsNumeral_wide, IsAscii-decimal_wide}
use Rattle.std.proofs.lemmas.Result.{Ok-from_Ok_iff}
use Rattle.std.proofs.lemmas.Str.{IsUtf8-from_ascii}
use Rattle.std.proofs.lemmas.Str.Parse.{numerals_by_value, tells_digits, parse_signed_digits, parse_signed_minus}
use Rattle.shared_documents.specs.Part.{number}
use Rattle.document_texts.specs.PartsRead.{is_told}

ascii-minus : (ds : List ℕ) → IsAscii ds → IsAscii (45 ∷ ds)
ascii-minus ds h zero = omega arith
ascii-minus ds h (suc i) = h i

ascii-signed : (z : ℤ) → is_told (number z) ≡ true → IsAscii (signed_decimal z)
ascii-signed (pos n) h = IsAscii-decimal_wide n (omega (arith, ltb-true n 170141183460469231731687303715884105728 h))
ascii-signed (negsuc n) h =
    ascii-minus (decimal (suc n))
    (IsAscii-decimal_wide (suc n) (omega (arith, ltb-true n 170141183460469231731687303715884105728 h)))

pub signed-text : (z : ℤ) (bytes : List ℕ) → is_told (number z) ≡ true → bytes ≡ signed_decimal z → IsUtf8 bytes
signed-text z bytes h is = subst IsUtf8 (sym is) (IsUtf8-from_ascii (signed_decimal z) (ascii-signed z h))

-- a number that fits 128 bits is what is parsed of its text
pub signed-parsed : {E : Type 0} (w : Width) (z : ℤ) (bytes : List ℕ) (r : Result ℤ E) → hbits w ≡ 127
    → is_told (number z) ≡ true → bytes ≡ signed_decimal z → ParsesSigned w 10 bytes r → r ≡ Ok z
signed-parsed w (pos n) bytes r size h is p =
    let small = ltb-true n 170141183460469231731687303715884105728 h in
    let k = decimal_is_IsNumeral_wide n (omega (arith, small)) in
    let read = parse_signed_digits (numerals_by_value _ tells_digits) w (decimal n) r
    (subst (λ l. ParsesSigned w 10 l r) is p) k.0.1 in
    Ok-from_Ok_iff r _ _ read
    (k.0.0, subst (λ b. digits_value 10 (decimal n) < 2 ^ b) (sym size) (omega (arith, k.1, small)))
    ∙ ap (λ m. Ok (pos m)) k.1
signed-parsed w (negsuc n) bytes r size h is p =
    let small = ltb-true n 170141183460469231731687303715884105728 h in
    let k = decimal_is_IsNumeral_wide (suc n) (omega (arith, small)) in
    let read = parse_signed_minus (numerals_by_value _ tells_digits) w (45 ∷ decimal (suc n)) r
    (subst (λ l. ParsesSigned w 10 l r) is p) refl in
    Ok-from_Ok_iff r _ _ read
    (k.0.1, k.0.0, subst (λ b. digits_value 10 (decimal (suc n)) ≤ 2 ^ b) (sym size) (omega (arith, k.1, small)))
    ∙ ap (λ m. Ok (neg_ℤ (pos m))) k.1
