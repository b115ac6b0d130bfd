-- Numbers in decimal: each below 4294967296 has one text, and no other text has a number.
use Rattle.std.proofs.Common.{◌≡◌, ℕ, zero, suc, ◌+◌, ◌-◌, ◌*◌, ◌^◌, ◌<◌, ◌≤◌, Bool, true, false, ◌&&◌, not, cond, nat_eq, nat_lt, List, [], ◌∷◌, length, get_or, Some, None, ⊎_elim, inr, ◌⊎◌, refl, ap, sym, ◌∙◌, rules, arith}
use Rattle.std.specs.Char.{is_ascii_digit}
use Rattle.std.specs.Str.{all_ascii_digits}
use Rattle.std.specs.Fmt.{decimal}
use Rattle.std.proofs.lemmas.Bool.{eqb-false, true≢false, and_parts, and_from, not-true, not_from_false, lt-ltb, ltb-true, ne_eqb}
use Rattle.std.proofs.lemmas.Str.Parse.{IsNumeralModel, numerals_by_fold}
use Rattle.std.proofs.lemmas.Fmt.{digits_decimal, digits_value-decimal, decimal-digits_value, decimal_nonempty, first_decimal, decimal_digit}
use Rattle.certificate_lines.specs.Text.{is_small}
use Rattle.certificate_lines.specs.Reading.{is_plain, digits_from, number_of}
use Rattle.line_laws.proofs.PieceLaws.{lacks}

abbrev read_on : ℕ → List ℕ → ℕ
read_on n [] = n
read_on n (c ∷ cs) = read_on (n * 10 + (c - 48)) cs

own : IsNumeralModel (λ ds. all_ascii_digits ds ≡ true) (read_on 0)
own = numerals_by_fold _ (search rules) read_on (search rules)

-- what digits say

module _ (n d : ℕ) (ds : List ℕ) where
  pub digits_from-other : is_ascii_digit d ≡ false → digits_from n (d ∷ ds) ≡ None
  digits_from-other e = go (is_ascii_digit d) (nat_lt (n * 10 + (d - 48)) 4294967296) e where
    go : (s t : Bool) → s ≡ false → cond (s && t) (digits_from (n * 10 + (d - 48)) ds) None ≡ None
    go true t e = absurd (true≢false e)
    go false t e = refl

  pub digits_from-more : is_ascii_digit d ≡ true → n * 10 + (d - 48) < 4294967296
      → digits_from n (d ∷ ds) ≡ digits_from (n * 10 + (d - 48)) ds
  digits_from-more e l =
      go (is_ascii_digit d) (nat_lt (n * 10 + (d - 48)) 4294967296) e (lt-ltb (n * 10 + (d - 48)) 4294967296 l)
    where
      go : (s t : Bool) → s ≡ true → t ≡ true
          → cond (s && t) (digits_from (n * 10 + (d - 48)) ds) None ≡ digits_from (n * 10 + (d - 48)) ds
      go true true e f = refl
      go true false e f = absurd (true≢false (sym f))
      go false t e f = absurd (true≢false (sym e))

-- the digits, their number and its bound
record Says (n : ℕ) (ds : List ℕ) (m : ℕ) : Type 0 where
  digits : all_ascii_digits ds ≡ true
  value : read_on n ds ≡ m
  bound : m < 4294967296

digits_from-says : (n : ℕ) (ds : List ℕ) (m : ℕ) → n < 4294967296 → digits_from n ds ≡ Some m → Says n ds m
digits_from-says n [] m l e =
    record { digits = refl; value = cc; bound = let same : n ≡ m = cc in omega (arith, l, same) }
digits_from-says n (d ∷ ds) m l e =
    go (digits_from-says (n * 10 + (d - 48)) ds m) (is_ascii_digit d) refl
    (nat_lt (n * 10 + (d - 48)) 4294967296) refl e
  where
    go : (n * 10 + (d - 48) < 4294967296 → digits_from (n * 10 + (d - 48)) ds ≡ Some m → Says (n * 10 + (d - 48)) ds m)
        → (s : Bool) → is_ascii_digit d ≡ s → (t : Bool) → nat_lt (n * 10 + (d - 48)) 4294967296 ≡ t
        → cond (s && t) (digits_from (n * 10 + (d - 48)) ds) None ≡ Some m → Says n (d ∷ ds) m
    go next true p true q f =
        let more = next (ltb-true _ _ q) f in
        record {
          digits = and_from (is_ascii_digit d) (all_ascii_digits ds) p more.digits;
          value = more.value;
          bound = more.bound;
        }
    go next true p false q f = cc
    go next false p t q f = cc

grows : (n : ℕ) (ds : List ℕ) → n ≤ read_on n ds
grows n [] = omega arith
grows n (d ∷ ds) = omega (arith, grows (n * 10 + (d - 48)) ds)

digits_from-value : (n : ℕ) (ds : List ℕ) → all_ascii_digits ds ≡ true → read_on n ds < 4294967296
    → digits_from n ds ≡ Some (read_on n ds)
digits_from-value n [] h l = refl
digits_from-value n (d ∷ ds) h l =
    let (p, q) = and_parts (is_ascii_digit d) (all_ascii_digits ds) h in
    digits_from-more n d ds p (omega (arith, grows (n * 10 + (d - 48)) ds))
    ∙ digits_from-value (n * 10 + (d - 48)) ds q l

-- no zero in front

plain-one : (ds : List ℕ) → is_plain ds ≡ true → (0 < length ds) × (get_or ds 0 0 ≡ 48 → length ds ≡ 1)
plain-one [] h = absurd (true≢false (sym h))
plain-one (d ∷ []) h = (omega arith, λ e. refl)
plain-one (d ∷ e ∷ ds) h = (omega arith, λ z. absurd (eqb-false d 48 (not-true _ h) z))

one-plain : (ds : List ℕ) → 0 < length ds → (length ds ≡ 1) ⊎ (48 < get_or ds 0 0) → is_plain ds ≡ true
one-plain [] l h = absurd (omega (arith, l))
one-plain (d ∷ []) l h = refl
one-plain (d ∷ e ∷ ds) l h =
    not_from_false _ (ne_eqb d 48 (λ z. ⊎_elim (λ k. omega (arith, k)) (λ k. omega (arith, k, z)) h))

decimal-plain : (n : ℕ) → n < 2 ^ 64 → is_plain (decimal n) ≡ true
decimal-plain zero l = ap is_plain (decimal_digit 0 (omega arith))
decimal-plain (suc n) l = one-plain (decimal (suc n)) (decimal_nonempty (suc n) l)
    (inr (first_decimal (suc n) (omega arith) l))

-- a number's text is read as the number, and what is read as one is its text

pub number_of-text : (ds : List ℕ) (n : ℕ) → number_of ds ≡ Some n → (decimal n ≡ ds) × (is_small n ≡ true)
number_of-text ds n e = go (is_plain ds) refl e where
  go : (b : Bool) → is_plain ds ≡ b → cond b (digits_from 0 ds) None ≡ Some n → (decimal n ≡ ds) × (is_small n ≡ true)
  go true p f =
      let says = digits_from-says 0 ds n (omega arith) f in
      let (some, one) = plain-one ds p in
      let value : read_on 0 ds ≡ n = says.value in
      let small : read_on 0 ds < 2 ^ 64 = omega (arith, value, says.bound) in
      (ap decimal (sym value) ∙ decimal-digits_value own ds says.digits some one small, lt-ltb n 4294967296 says.bound)
  go false p f = cc

pub number_of-decimal : (n : ℕ) → is_small n ≡ true → number_of (decimal n) ≡ Some n
number_of-decimal n h =
    let l : n < 4294967296 = ltb-true n 4294967296 h in
    let m : n < 2 ^ 64 = omega (arith, l) in
    let value : read_on 0 (decimal n) ≡ n = digits_value-decimal own n m in
    plain (is_plain (decimal n)) (decimal-plain n m)
    ∙ digits_from-value 0 (decimal n) (digits_decimal own n m) (omega (arith, value, l)) ∙ ap Some value
  where
    plain : (b : Bool) → b ≡ true → cond b (digits_from 0 (decimal n)) None ≡ digits_from 0 (decimal n)
    plain true e = refl
    plain false e = absurd (true≢false (sym e))

-- digits are no other byte

digits-lack : (b : ℕ) → is_ascii_digit b ≡ false → (ds : List ℕ) → all_ascii_digits ds ≡ true → lacks b ds ≡ true
digits-lack b other [] h = refl
digits-lack b other (d ∷ ds) h =
    let (p, q) = and_parts (is_ascii_digit d) (all_ascii_digits ds) h in
    and_from (not (nat_eq d b)) (lacks b ds)
    (not_from_false _ (ne_eqb d b (λ e. true≢false (sym p ∙ ap is_ascii_digit e ∙ other)))) (digits-lack b other ds q)

-- the text of a number has no byte but digits
pub decimal-lacks : (b : ℕ) → is_ascii_digit b ≡ false → (n : ℕ) → is_small n ≡ true → lacks b (decimal n) ≡ true
decimal-lacks b other n h =
    let l : n < 4294967296 = ltb-true n 4294967296 h in
    digits-lack b other (decimal n) (digits_decimal own n (omega (arith, l)))
