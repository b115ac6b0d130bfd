-- What the bytes of a text decode to are scalar values.
use Rattle.std.proofs.Common.{◌≡◌, ℕ, List, [], ◌∷◌, Bool, true, false, ◌&&◌, ◌||◌, cond, nat_lt, chars, IsUtf8, refl}
use Rattle.std.proofs.lemmas.Bool.{and_parts, and_from}
use Rattle.std.proofs.lemmas.Str.{scalars-chars}
use Rattle.std.specs.Str.{all_scalars}
use Rattle.documents.specs.Tests.{every, is_scalar}

is_scalar-at : (low : Bool) (rest : Bool) → cond low true rest ≡ true → (low || rest) ≡ true
is_scalar-at true rest h = refl
is_scalar-at false rest h = h

every-is_scalar : (cs : List ℕ) → all_scalars cs ≡ true → every is_scalar cs ≡ true
every-is_scalar [] h = refl
every-is_scalar (c ∷ cs) h =
    let p = and_parts _ _ h in
    and_from (is_scalar c) (every is_scalar cs)
    (is_scalar-at (nat_lt c 55296) (nat_lt 57343 c && nat_lt c 1114112) p.0) (every-is_scalar cs p.1)

-- the characters of UTF-8 bytes are scalar values
pub every-chars : (s : List ℕ) → IsUtf8 s → every is_scalar (chars s) ≡ true
every-chars s u = every-is_scalar (chars s) (scalars-chars s u)
