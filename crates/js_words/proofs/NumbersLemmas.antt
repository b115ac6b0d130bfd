-- Plain decimals, as `parse` reads them.
use Rattle.std.proofs.Common.{◌≡◌, ◌<◌, ◌≤◌, ◌^◌, ◌⊎◌, inl, inr, ℕ, true, List, Some, None, Result, Ok, Err, length, rules, subst, arith}
use Rattle.std.specs.Result.{OkIff}
use Rattle.std.specs.Char.{is_ascii_digit}
use Rattle.std.specs.List.{list_all}
use Rattle.std.specs.Str.Parse.{ParsesUnsigned}
use Rattle.std.proofs.lemmas.Str.Parse.{IsNumeralModel, numerals_by_fold, parse_digits}
use Rattle.std.proofs.lemmas.Bool.{cases_lt}
use Rattle.std.proofs.lemmas.Bool.Decides.{nat_tests}
use Rattle.js_words.specs.Numbers.{decimal_value, is_plain_decimal, number_in, value_after}

own : IsNumeralModel (λ ds. list_all is_ascii_digit ds ≡ true) decimal_value
own = numerals_by_fold _ (search rules) value_after (search rules)

-- a plain decimal has digits alone, and one at least
record Digits (text : List ℕ) : Type 0 where
  some : 0 < length text
  all : list_all is_ascii_digit text ≡ true

digits : (text : List ℕ) → is_plain_decimal text ≡ true → Digits text
digits text plain = record { some = grind (arith, nat_tests); all = grind (arith, nat_tests) }

at_least : (a b : ℕ) → ¬ (a < b) → b ≤ a
at_least a b h = elim (cases_lt a b) [ inl lt ↦ absurd (h lt) | inr ge ↦ ge ]

-- a number of 32 bits is read
abbrev ReadsPlain : {E : Type 0} → List ℕ → Result ℕ E → Type 0
ReadsPlain text r = OkIff r ((0 < length text) × (decimal_value text < 2 ^ 32)) (decimal_value text)

module _ {E : Type 0} (text : List ℕ) (r : Result ℕ E) (parses : ParsesUnsigned 32 10 text r)
    (plain : is_plain_decimal text ≡ true) where
  read : ReadsPlain text r
  read = parse_digits own 32 text r parses (digits text plain).all

  pub read-ok : (n : ℕ) → r ≡ Ok n → n ≡ decimal_value text
  read-ok n is = (subst (λ (s : Result ℕ E). ReadsPlain text s) is read).1

  pub read-err : (e : E) → r ≡ Err e → 2 ^ 32 ≤ decimal_value text
  read-err e is =
      let refused : ¬ ((0 < length text) × (decimal_value text < 2 ^ 32)) =
      subst (λ (s : Result ℕ E). ReadsPlain text s) is read in
      at_least _ _ (λ lt. refused ((digits text plain).some, lt))

-- a plain decimal within the range is read as its number
pub in_range : (low high n : ℕ) (text : List ℕ) → is_plain_decimal text ≡ true → n ≡ decimal_value text → low ≤ n
    → n ≤ high
    → Some n ≡ number_in low high text
in_range low high n text plain is above below = grind (arith, nat_tests)

pub out_of_range : (low high n : ℕ) (text : List ℕ) → n ≡ decimal_value text → (n < low) ⊎ (high < n)
    → None ≡ number_in low high text
out_of_range low high n text is out = grind (arith, nat_tests)

pub over : (low high : ℕ) (text : List ℕ) → high < decimal_value text → None ≡ number_in low high text
over low high text past = grind (arith, nat_tests)
