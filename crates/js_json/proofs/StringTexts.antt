-- A string's content in a UTF-8 text is UTF-8.
use Rattle.std.proofs.Common.{◌≡◌, inl, inr, ℕ, zero, suc, ◌+◌, ◌*◌, ◌<◌, ◌≤◌, List, [], ◌∷◌, ◌++◌, length, drop, get_or, Bool, true, false, cond, ◌&&◌, ◌||◌, ◌==◌, nat_lt, Option, Some, None, IsUtf8, refl, sym, ap, ◌∙◌, subst, arith, append-nil, add-one, length-append}
use Rattle.std.proofs.lemmas.Bool.{cases_lt, and_parts, ltb-true, le-ltb, eqb-true, ne_eqb}
use Rattle.std.proofs.lemmas.Bool.Decides.{nat_tests}
use Rattle.std.proofs.lemmas.Str.{IsUtf8-append, IsUtf8-nil, IsUtf8-encode, IsUtf8-drop, IsCharBoundary-after_ascii, encode_ascii, inside_one, length-encode, len_utf8_bounds}
use Rattle.std.proofs.Math.Utf8.{low_scalar}
use Rattle.std.specs.Char.{encode_utf8, digit_value, is_digit, IsScalar}
use Rattle.std.specs.Str.{encode_utf8_all, all_scalars}
use Rattle.json.specs.Text.{code_unit, short_escape, is_high_surrogate, is_low_surrogate, surrogate_pair, plain, after_backslash, after_u, after_high, prepend, content}
use Rattle.js_json.proofs.DataTexts.{Given, Given-and_then}

-- what follows an ASCII byte is UTF-8
pub record AfterAscii (xs : List ℕ) : Type 0 where
  pub at : (i : ℕ) → i < length xs → get_or xs i 0 < 128 → IsUtf8 (drop (suc i) xs)

pub AfterAscii-IsUtf8 : (xs : List ℕ) → IsUtf8 xs → AfterAscii xs
AfterAscii-IsUtf8 xs u =
    record {
      at = λ i l h. subst (λ k. IsUtf8 (drop k xs)) (add-one i)
          (IsUtf8-drop xs (i + 1) u (IsCharBoundary-after_ascii xs i u l h));
    }

pub AfterAscii-tail : (x : ℕ) (xs : List ℕ) → AfterAscii (x ∷ xs) → AfterAscii xs
AfterAscii-tail x xs a = record { at = λ i l h. a.at (suc i) (omega arith) h }

pub AfterAscii-head : (x : ℕ) (xs : List ℕ) → AfterAscii (x ∷ xs) → x < 128 → IsUtf8 xs
AfterAscii-head x xs a h = a.at 0 (omega arith) h

Given-cond : {A : Type 0} (P : A → Type 0) (b : Bool) (o p : Option A) → (b ≡ true → Given P o)
    → (b ≡ false → Given P p) → Given P (cond b o p)
Given-cond P true o p h k = h refl
Given-cond P false o p h k = k refl

Given-prepend : (bytes : List ℕ) (o : Option (List ℕ)) → IsUtf8 bytes → Given IsUtf8 o
    → Given IsUtf8 (prepend bytes o)
Given-prepend bytes None u h = tt
Given-prepend bytes (Some s) u h = IsUtf8-append bytes s u h

-- ---- bytes that are not ASCII are kept as they are

prepend-nil : (o : Option (List ℕ)) → o ≡ prepend [] o
prepend-nil None = refl
prepend-nil (Some s) = refl

prepend-cons : (x : ℕ) (xs : List ℕ) (o : Option (List ℕ))
    → prepend (x ∷ []) (prepend xs o) ≡ prepend (x ∷ xs) o
prepend-cons x xs None = refl
prepend-cons x xs (Some s) = refl

plain_byte : (x : ℕ) (xs : List ℕ) → 128 ≤ x → content plain (x ∷ xs) ≡ prepend (x ∷ []) (content plain xs)
unfolding content
plain_byte x xs h =
    let quote : x ≡ 34 → ⊥ = λ e. omega arith in
    let backslash : x ≡ 92 → ⊥ = λ e. omega arith in
    let control : 32 ≤ x = omega arith in
    rw (ne_eqb x 34 quote, ne_eqb x 92 backslash, le-ltb x 32 control) refl

plain_bytes : (xs ys : List ℕ) → ((k : ℕ) → k < length xs → 128 ≤ get_or xs k 0)
    → content plain (xs ++ ys) ≡ prepend xs (content plain ys)
plain_bytes [] ys h = prepend-nil (content plain ys)
plain_bytes (x ∷ xs) ys h =
    plain_byte x (xs ++ ys) (h 0 (omega arith))
    ∙ ap (prepend (x ∷ [])) (plain_bytes xs ys (λ k l. h (suc k) (omega arith)))
    ∙ prepend-cons x xs (content plain ys)

high_bytes : (c : ℕ) → 128 ≤ c → (k : ℕ) → k < length (encode_utf8 c) → 128 ≤ get_or (encode_utf8 c) k 0
high_bytes c big k below = elim (cases_lt (get_or (encode_utf8 c) k 0) 128) [
  | inl low ↦ absurd (omega (arith, inside_one c [] (encode_utf8 c) k (sym (append-nil _)) below low))
  | inr h ↦ h
]

-- ---- escapes

IsUtf8-byte : (x : ℕ) → x < 128 → IsUtf8 (x ∷ [])
IsUtf8-byte x h = subst IsUtf8 (encode_ascii x h) (IsUtf8-encode x (low_scalar x (omega arith)))

itself : (x : ℕ) → ((x == 34) || (x == 92) || (x == 47)) ≡ true → x < 128
itself x h = grind (arith, nat_tests)

letter : (x y : ℕ) → y < 128 → (x == y) ≡ true → x < 128
letter x y small h = omega (arith, eqb-true x y h)

-- a short escape is ASCII and stands for ASCII
short_escapes : (x : ℕ) → Given (λ c. (x < 128) × (c < 128)) (short_escape x)
unfolding short_escape
short_escapes x =
    let P : ℕ → Type 0 = λ c. (x < 128) × (c < 128) in
    Given-cond P ((x == 34) || (x == 92) || (x == 47)) _ _ (λ h. (itself x h, itself x h)) (λ _.
    Given-cond P (x == 98) _ _ (λ h. (letter x 98 (omega arith) h, omega arith)) (λ _.
    Given-cond P (x == 102) _ _ (λ h. (letter x 102 (omega arith) h, omega arith)) (λ _.
    Given-cond P (x == 110) _ _ (λ h. (letter x 110 (omega arith) h, omega arith)) (λ _.
    Given-cond P (x == 114) _ _ (λ h. (letter x 114 (omega arith) h, omega arith)) (λ _.
    Given-cond P (x == 116) _ _ (λ h. (letter x 116 (omega arith) h, omega arith)) (λ _. tt))))))

digit_value_high : (c : ℕ) → 128 ≤ c → digit_value c ≡ 36
digit_value_high c h =
    let l1 : 48 ≤ c = omega arith in
    let l2 : 58 ≤ c = omega arith in
    let l3 : 65 ≤ c = omega arith in
    let l4 : 91 ≤ c = omega arith in
    let l5 : 97 ≤ c = omega arith in
    let l6 : 123 ≤ c = omega arith in
    rw (le-ltb c 48 l1, le-ltb c 58 l2, le-ltb c 65 l3, le-ltb c 91 l4, le-ltb c 97 l5, le-ltb c 123 l6) refl

digit_ascii : (c : ℕ) → digit_value c < 16 → c < 128
digit_ascii c h = elim
    (cases_lt c 128) [ inl l ↦ l | inr big ↦ absurd (omega (arith, h, digit_value_high c big)) ]

unit_bound : (a b c d : ℕ) → a < 16 → b < 16 → c < 16 → d < 16 → a * 4096 + b * 256 + c * 16 + d < 65536
unit_bound a b c d p q r s = omega arith

-- four hex digits are ASCII and spell 16 bits
four_digits : (a b c d : ℕ) → Given (λ u. (d < 128) × (u < 65536)) (code_unit a b c d)
unfolding code_unit
four_digits a b c d =
    Given-cond (λ u. (d < 128) × (u < 65536))
    (is_digit a 16 && is_digit b 16 && is_digit c 16 && is_digit d 16) _ _ (λ h.
    let p = and_parts _ _ h in
    let q = and_parts _ _ p.0 in
    let r = and_parts _ _ q.0 in
    let last = ltb-true (digit_value d) 16 p.1 in (
      digit_ascii d last,
      unit_bound (digit_value a) (digit_value b) (digit_value c) (digit_value d)
          (ltb-true _ _ r.0) (ltb-true _ _ r.1) (ltb-true _ _ q.1) last,
    ))
    (λ _. tt)

no_surrogate : (u : ℕ) → u < 65536 → is_high_surrogate u ≡ false → is_low_surrogate u ≡ false → IsScalar u
no_surrogate u h high low = grind (arith, nat_tests)

pair_scalar : (h l : ℕ) → is_high_surrogate h ≡ true → is_low_surrogate l ≡ true
    → IsScalar (surrogate_pair h l)
pair_scalar h l high low = grind (arith, nat_tests)

-- ---- the content, over that of shorter texts

module _ (n : ℕ) (again : (xs : List ℕ) → length xs ≤ n → IsUtf8 xs → Given IsUtf8 (content plain xs)) where
  after_character : (c : ℕ) (xs : List ℕ) → IsScalar c → length xs ≤ n → IsUtf8 xs
      → Given IsUtf8 (prepend (encode_utf8 c) (content plain xs))
  after_character c xs ok short u =
      Given-prepend (encode_utf8 c) (content plain xs) (IsUtf8-encode c ok) (again xs short u)

  content-after_high : (h : ℕ) (xs : List ℕ) → is_high_surrogate h ≡ true → length xs ≤ n → AfterAscii xs
      → Given IsUtf8 (content (after_high h) xs)
  unfolding content
  content-after_high h [] high short a = tt
  content-after_high h (s ∷ []) high short a = tt
  content-after_high h (s ∷ u ∷ []) high short a = tt
  content-after_high h (s ∷ u ∷ w ∷ []) high short a = tt
  content-after_high h (s ∷ u ∷ w ∷ x ∷ []) high short a = tt
  content-after_high h (s ∷ u ∷ w ∷ x ∷ y ∷ []) high short a = tt
  content-after_high h (s ∷ u ∷ w ∷ x ∷ y ∷ z ∷ xs) high short a =
      let rest : AfterAscii (z ∷ xs) =
      AfterAscii-tail y _ (AfterAscii-tail x _
      (AfterAscii-tail w _ (AfterAscii-tail u _ (AfterAscii-tail s _ a)))) in
      Given-cond IsUtf8 ((s == 92) && (u == 117)) _ _ (λ _.
      Given-and_then (λ l. (z < 128) × (l < 65536)) IsUtf8
      (λ l. cond (is_low_surrogate l)
      (prepend (encode_utf8 (surrogate_pair h l)) (content plain xs)) None)
      (λ l k. Given-cond IsUtf8 (is_low_surrogate l) _ _
      (λ low. after_character (surrogate_pair h l) xs (pair_scalar h l high low) (omega arith)
      (AfterAscii-head z xs rest k.0)) (λ _. tt))
      (code_unit w x y z) (four_digits w x y z))
      (λ _. tt)

  content-after_u : (xs : List ℕ) → length xs ≤ n → AfterAscii xs → Given IsUtf8 (content after_u xs)
  unfolding content
  content-after_u [] short a = tt
  content-after_u (w ∷ []) short a = tt
  content-after_u (w ∷ x ∷ []) short a = tt
  content-after_u (w ∷ x ∷ y ∷ []) short a = tt
  content-after_u (w ∷ x ∷ y ∷ z ∷ xs) short a =
      let rest : AfterAscii (z ∷ xs) = AfterAscii-tail y _ (AfterAscii-tail x _ (AfterAscii-tail w _ a)) in
      Given-and_then (λ u. (z < 128) × (u < 65536)) IsUtf8
      (λ u. cond (is_high_surrogate u) (content (after_high u) xs)
      (cond (is_low_surrogate u) None (prepend (encode_utf8 u) (content plain xs))))
      (λ u k. Given-cond IsUtf8 (is_high_surrogate u) _ _
      (λ high. content-after_high u xs high (omega arith) (AfterAscii-tail z xs rest))
      (λ high. Given-cond IsUtf8 (is_low_surrogate u) _ _ (λ _. tt)
      (λ low. after_character u xs (no_surrogate u k.1 high low) (omega arith)
      (AfterAscii-head z xs rest k.0))))
      (code_unit w x y z) (four_digits w x y z)

  content-after_backslash : (xs : List ℕ) → length xs ≤ n → AfterAscii xs
      → Given IsUtf8 (content after_backslash xs)
  unfolding content
  content-after_backslash [] short a = tt
  content-after_backslash (x ∷ xs) short a =
      Given-cond IsUtf8 (x == 117) _ _ (λ _. content-after_u xs (omega arith) (AfterAscii-tail x xs a)) (λ _.
      Given-and_then (λ c. (x < 128) × (c < 128)) IsUtf8 (λ c. prepend (c ∷ []) (content plain xs))
      (λ c k. Given-prepend (c ∷ []) (content plain xs) (IsUtf8-byte c k.1)
      (again xs (omega arith) (AfterAscii-head x xs a k.0)))
      (short_escape x) (short_escapes x))

  content-ascii : (c : ℕ) (xs : List ℕ) → c < 128 → length xs ≤ n → IsUtf8 xs
      → Given IsUtf8 (content plain (c ∷ xs))
  unfolding content
  content-ascii c xs small short u =
      Given-cond IsUtf8 (c == 34) _ _ (λ _. IsUtf8-nil) (λ _.
      Given-cond IsUtf8 (c == 92) _ _ (λ _. content-after_backslash xs short (AfterAscii-IsUtf8 xs u)) (λ _.
      Given-cond IsUtf8 (nat_lt c 32) _ _ (λ _. tt)
      (λ _. Given-prepend (c ∷ []) (content plain xs) (IsUtf8-byte c small) (again xs short u))))

  content-characters : (cs : List ℕ) → all_scalars cs ≡ true → length (encode_utf8_all cs) ≤ suc n
      → Given IsUtf8 (content plain (encode_utf8_all cs))
  unfolding content
  content-characters [] ok short = tt
  content-characters (c ∷ cs) ok short =
      let p = and_parts _ _ ok in
      let u : IsUtf8 (encode_utf8_all cs) = (cs, (p.1, refl)) in
      let less : length (encode_utf8_all cs) ≤ n =
      omega (
        arith,
        length-append (encode_utf8 c) (encode_utf8_all cs),
        length-encode c,
        len_utf8_bounds c,
      ) in
      elim (cases_lt c 128) [
        | inl small ↦ subst (λ bytes. Given IsUtf8 (content plain (bytes ++ encode_utf8_all cs)))
            (sym (encode_ascii c small)) (content-ascii c (encode_utf8_all cs) small less u)
        | inr big ↦ subst (Given IsUtf8)
            (sym (plain_bytes (encode_utf8 c) (encode_utf8_all cs) (high_bytes c big)))
            (after_character c (encode_utf8_all cs) p.0 less u)
      ]

content-within : (n : ℕ) (xs : List ℕ) → length xs ≤ n → IsUtf8 xs → Given IsUtf8 (content plain xs)
unfolding content
content-within zero [] short u = tt
content-within zero (x ∷ xs) short u = absurd (omega arith)
content-within (suc n) xs short u =
    subst (λ bytes. Given IsUtf8 (content plain bytes)) u.1.1
    (content-characters n (content-within n) u.0 u.1.0
    (subst (λ bytes. length bytes ≤ suc n) (sym u.1.1) short))

-- the content of a string that begins here
pub IsUtf8-content : (xs : List ℕ) → IsUtf8 xs → Given IsUtf8 (content plain xs)
IsUtf8-content xs u = content-within (length xs) xs (omega arith) u
