-- The token of an element is the one text of its number.
use Rattle.std.proofs.Common.{◌≡◌, ℕ, zero, suc, ◌+◌, ◌-◌, ◌*◌, ◌/◌, ◌%◌, ◌^◌, ◌<◌, ◌≤◌, ◌==◌, nat_lt, List, [], ◌∷◌, ◌++◌, length, ⊎_elim, Bool, true, false, not, if◌then◌else◌, Some, None, refl, sym, ap, ap₂, subst, ◌∙◌, arith, append_assoc, append-nil, nat_le, ◌≢◌, true≢false}
use Rattle.std.proofs.lemmas.Option.{none-some, same_Some}
use Rattle.std.specs.Char.{is_ascii_digit, digit_value}
use Rattle.std.specs.Fmt.{digits_onto, digit_glyph, decimal, digits}
use Rattle.std.specs.List.{list_all}
use Rattle.std.specs.Str.Parse.{digits_value, digits_value_after}
use Rattle.std.proofs.lemmas.Bool.{cases_lt, and_parts, and_from}
use Rattle.std.proofs.lemmas.List.Folds.{list_all-append}
use Rattle.documents.specs.Place.{is_index, index_of}
use Rattle.schemas.specs.Places.{index_token}

abbrev spell : ℕ → ℕ → List ℕ → List ℕ
spell k n acc = digits_onto k 10 false n acc

glyph : (d : ℕ) → d < 10 → digit_glyph false d ≡ 48 + d
glyph d h = let below : nat_lt d 10 ≡ true = grind arith in rw below refl

spell_last : (k n : ℕ) (acc : List ℕ) → n < 10 → spell (suc k) n acc ≡ (48 + n) ∷ acc
spell_last k n acc h =
    let none : (n / 10 == 0) ≡ true = grind arith in
    let same : n % 10 ≡ n = omega arith in
    let small : digit_glyph false (n % 10) ≡ 48 + n % 10 = glyph (n % 10) (omega arith) in
    rw (none, small, same) refl

spell_next : (k n : ℕ) (acc : List ℕ) → 10 ≤ n → spell (suc k) n acc ≡ spell k (n / 10) ((48 + n % 10) ∷ acc)
spell_next k n acc h =
    let some : (n / 10 == 0) ≡ false = grind arith in
    let small : digit_glyph false (n % 10) ≡ 48 + n % 10 = glyph (n % 10) (omega arith) in
    rw (some, small) refl

spell-append : (k n : ℕ) (acc : List ℕ) → spell k n acc ≡ spell k n [] ++ acc
spell-append zero n acc = refl
spell-append (suc k) n acc = ⊎_elim
    (λ l. spell_last k n acc l ∙ ap (λ x. x ++ acc) (sym (spell_last k n [] l)))
    (λ l. spell_next k n acc l ∙ spell-append k (n / 10) ((48 + n % 10) ∷ acc)
    ∙ sym (append_assoc (spell k (n / 10) []) ((48 + n % 10) ∷ []) acc)
    ∙ ap (λ x. x ++ acc) (sym (spell_next k n [] l ∙ spell-append k (n / 10) ((48 + n % 10) ∷ []))))
    (cases_lt n 10)

-- more digits than there are change nothing
pub spell_enough : (j k n : ℕ) (acc : List ℕ) → n < 10 ^ suc j → n < 10 ^ suc k
    → spell (suc j) n acc ≡ spell (suc k) n acc
spell_enough zero k n acc p q = spell_last zero n acc (omega arith) ∙ sym (spell_last k n acc (omega arith))
spell_enough (suc j) zero n acc p q = spell_last (suc j) n acc (omega arith) ∙ sym (spell_last zero n acc (omega arith))
spell_enough (suc j) (suc k) n acc p q = ⊎_elim
    (λ l. spell_last (suc j) n acc l ∙ sym (spell_last (suc k) n acc l))
    (λ l. spell_next (suc j) n acc l
    ∙ spell_enough j k (n / 10) ((48 + n % 10) ∷ acc) (omega arith) (omega arith) ∙ sym (spell_next (suc k) n acc l))
    (cases_lt n 10)

-- there are fewer digits than the number counts
power : (j n : ℕ) → n ≤ j → n < 10 ^ suc j
power zero n h = omega arith
power (suc j) n h = let k = power j (n - 1) (omega arith) in omega arith

spell_plenty : (j n : ℕ) → n < j → spell j n [] ≡ spell (suc n) n []
spell_plenty zero n h = absurd (omega arith)
spell_plenty (suc j) n h = spell_enough j n n [] (power j n (omega arith)) (power n n (omega arith))

pub index_token_last : (n : ℕ) → n < 10 → index_token n ≡ (48 + n) ∷ []
unfolding index_token
index_token_last n h = spell_last n n [] h

pub index_token_step : (n d : ℕ) → 0 < n → d < 10 → index_token (10 * n + d) ≡ index_token n ++ (48 + d) ∷ []
unfolding index_token
index_token_step n d some small =
    let tens : (10 * n + d) / 10 ≡ n = omega arith in
    let ones : (10 * n + d) % 10 ≡ d = omega arith in
    spell_next (10 * n + d) (10 * n + d) [] (omega arith)
    ∙ ap₂ (λ m e. spell (10 * n + d) m ((48 + e) ∷ [])) tens ones
    ∙ spell-append (10 * n + d) n ((48 + d) ∷ [])
    ∙ ap (λ x. x ++ (48 + d) ∷ []) (spell_plenty (10 * n + d) n (omega arith))

-- as an element's number is printed
pub index_token-decimal : (n : ℕ) → n < 2 ^ 64 → decimal n ≡ index_token n
unfolding index_token digits
index_token-decimal n h = spell_enough 63 n n [] (omega arith) (power n n (omega arith))

-- ---- a token that writes a number is the number's

digit_range : (c : ℕ) → is_ascii_digit c ≡ true → (48 ≤ c) × (c < 58)
digit_range c h = let both = and_parts (nat_le 48 c) (nat_le c 57) h in (grind (arith, both.0), grind (arith, both.1))

digit_is : (c : ℕ) → 48 ≤ c → c < 58 → digit_value c ≡ c - 48
digit_is c low high =
    let first : nat_lt c 48 ≡ false = grind arith in
    let second : nat_lt c 58 ≡ true = grind arith in
    rw (first, second) refl

-- digits after those of a number write on
after_token : (n : ℕ) (w : List ℕ) → 0 < n → list_all is_ascii_digit w ≡ true
    → index_token (digits_value_after 10 n w) ≡ index_token n ++ w
after_token n [] h k = sym (append-nil (index_token n))
after_token n (c ∷ w) h k =
    let both = and_parts (is_ascii_digit c) (list_all is_ascii_digit w) k in
    let range = digit_range c both.0 in
    let value = digit_is c range.0 range.1 in
    let next : n * 10 + digit_value c ≡ 10 * n + (c - 48) = ap (λ x. n * 10 + x) value ∙ omega arith in
    let step = index_token_step n (c - 48) h (omega arith) in
    let back : 48 + (c - 48) ≡ c = omega arith in
    after_token (n * 10 + digit_value c) w (omega arith) both.1
    ∙ ap (λ x. x ++ w) (ap index_token next ∙ step ∙ ap (λ x. index_token n ++ x ∷ []) back)
    ∙ append_assoc (index_token n) (c ∷ []) w

-- an index is the token of the number that it writes
token_at : (t : List ℕ) (test : Bool) (n : ℕ) → is_index t ≡ test
    → (if test then Some (digits_value 10 t) else None) ≡ Some n → t ≡ index_token n
token_at t false n h e = absurd (none-some n e)
token_at [] true n h e = absurd (true≢false (sym h))
token_at (c ∷ []) true n h e =
    let range = digit_range c h in
    let number : n ≡ c - 48 =
    sym (same_Some (0 * 10 + digit_value c) n e) ∙ ap (λ x. 0 * 10 + x) (digit_is c range.0 range.1) ∙ omega arith in
    let back : 48 + (c - 48) ≡ c = omega arith in
    sym (ap index_token number ∙ index_token_last (c - 48) (omega arith) ∙ ap (λ x. x ∷ []) back)
token_at (c ∷ d ∷ w) true n h e =
    let both = and_parts (not (c == 48)) (list_all is_ascii_digit (c ∷ d ∷ w)) h in
    let digits = and_parts (is_ascii_digit c) (list_all is_ascii_digit (d ∷ w)) both.1 in
    let range = digit_range c digits.0 in
    let first : 0 * 10 + digit_value c ≡ c - 48 = ap (λ x. 0 * 10 + x) (digit_is c range.0 range.1) ∙ omega arith in
    let some : c ≢ 48 = grind (arith, both.0) in
    let back : 48 + (c - 48) ≡ c = omega arith in
    sym (ap index_token (sym (same_Some (digits_value_after 10 (0 * 10 + digit_value c) (d ∷ w)) n e))
    ∙ after_token (0 * 10 + digit_value c) (d ∷ w) (omega arith) digits.1
    ∙ ap (λ x. x ++ d ∷ w) (ap index_token first ∙ index_token_last (c - 48) (omega arith) ∙ ap (λ x. x ∷ []) back))

pub index_token-of : (t : List ℕ) (n : ℕ) → index_of t ≡ Some n → t ≡ index_token n
index_token-of t n e = token_at t (is_index t) n refl e

-- ---- and the token of a number is an index, which writes it

record IsSpelled (n : ℕ) : Type 0 where
  first : ℕ
  later : List ℕ
  is : index_token n ≡ first ∷ later
  digit : is_ascii_digit first ≡ true
  digits : list_all is_ascii_digit later ≡ true
  value : digits_value 10 (first ∷ later) ≡ n
  nonzero : 0 < n → not (first == 48) ≡ true
  alone : n < 10 → later ≡ []

value-append : (v : ℕ) (w : List ℕ) (c : ℕ)
    → digits_value_after 10 v (w ++ c ∷ []) ≡ digits_value_after 10 v w * 10 + digit_value c
value-append v [] c = refl
value-append v (d ∷ w) c = value-append (v * 10 + digit_value d) w c

is_digit : (d : ℕ) → d < 10 → is_ascii_digit (48 + d) ≡ true
is_digit d h = and_from (nat_le 48 (48 + d)) (nat_le (48 + d) 57) (grind arith) (grind arith)

spelled_last : (n : ℕ) → n < 10 → IsSpelled n
spelled_last n h = record {
  first = 48 + n;
  later = [];
  is = index_token_last n h;
  digit = is_digit n h;
  digits = refl;
  value = ap (λ x. 0 * 10 + x) (digit_is (48 + n) (omega arith) (omega arith)) ∙ omega arith;
  nonzero = λ k. grind arith;
  alone = λ k. refl;
}

all_more : (w : List ℕ) (c : ℕ) → list_all is_ascii_digit w ≡ true → is_ascii_digit c ≡ true
    → list_all is_ascii_digit (w ++ c ∷ []) ≡ true
all_more w c h k =
    list_all-append is_ascii_digit w (c ∷ [])
    ∙ and_from (list_all is_ascii_digit w) (list_all is_ascii_digit (c ∷ [])) h
    (and_from (is_ascii_digit c) true k refl)

spelled_next : (m d : ℕ) → 0 < m → d < 10 → IsSpelled m → IsSpelled (10 * m + d)
spelled_next m d some small s = record {
  first = s.first;
  later = s.later ++ (48 + d) ∷ [];
  is = index_token_step m d some small ∙ ap (λ w. w ++ (48 + d) ∷ []) s.is;
  digit = s.digit;
  digits = all_more s.later (48 + d) s.digits (is_digit d small);
  value = value-append (0 * 10 + digit_value s.first) s.later (48 + d)
      ∙ ap₂ (λ x y. x * 10 + y) s.value (digit_is (48 + d) (omega arith) (omega arith)) ∙ omega arith;
  nonzero = λ k. s.nonzero some;
  alone = λ k. absurd (omega arith);
}

spelled : (k n : ℕ) → n ≤ k → IsSpelled n
spelled zero n h = spelled_last n (omega arith)
spelled (suc k) n h = ⊎_elim (λ l. spelled_last n l)
    (λ l. let parts : 10 * (n / 10) + n % 10 ≡ n = omega arith in
    subst IsSpelled parts
    (spelled_next (n / 10) (n % 10) (omega arith) (omega arith) (spelled k (n / 10) (omega arith))))
    (cases_lt n 10)

indexed : (n c : ℕ) (w : List ℕ) → is_ascii_digit c ≡ true → list_all is_ascii_digit w ≡ true
    → digits_value 10 (c ∷ w) ≡ n → (0 < n → not (c == 48) ≡ true) → (n < 10 → w ≡ []) → index_of (c ∷ w) ≡ Some n
indexed n c [] h k v f g = rw h (ap Some v)
indexed n c (d ∷ w) h k v f g = ⊎_elim (λ l. absurd (cons≢nil (g l)))
    (λ l. let test = and_from (not (c == 48)) (list_all is_ascii_digit (c ∷ d ∷ w)) (f (omega arith))
    (and_from (is_ascii_digit c) (list_all is_ascii_digit (d ∷ w)) h k) in rw test (ap Some v))
    (cases_lt n 10)
  where
    cons≢nil : d ∷ w ≡ [] → ⊥
    cons≢nil e = let longer = ap length e in omega (arith, longer)

pub index_of-token : (n : ℕ) → index_of (index_token n) ≡ Some n
index_of-token n =
    let s = spelled n n (omega arith) in
    ap index_of s.is ∙ indexed n s.first s.later s.digit s.digits s.value s.nonzero s.alone
