-- What a set has once a range is added, and what its complement has.
use Rattle.std.proofs.Common.{◌≡◌, ℕ, ◌+◌, ◌<◌, ◌≤◌, inl, inr, min, max, Bool, true, false, ◌&&◌, ◌||◌, nat_lt, nat_le, List, [], ◌∷◌, refl, ap, sym, ◌∙◌, subst, arith}
use Rattle.std.proofs.lemmas.Bool.{cases_Bool, and_parts, and_from, leb-true, ltb-true, ltb-false, le-leb, cond-true, cond-false}
use Rattle.std.proofs.lemmas.Bool.Decides.{nat_tests}
use Rattle.patterns.specs.CharSet.{is_within, has, is_range, are_ranges, with_range, set_of}
use Rattle.pattern_laws.specs.Laws.{every_range}
use Rattle.pattern_laws.proofs.Members.{Rises, rises-are_ranges, rises-lower}

-- two ranges that meet are one
pub is_within-joined : (a b c d n : ℕ) → a ≤ b → c ≤ d → c ≤ b + 1 → a ≤ d + 1
    → is_within (min a c, max b d) n ≡ is_within (a, b) n || is_within (c, d) n
is_within-joined a b c d n h k p q = grind (arith, nat_tests)

pub or_swap : (x y z : Bool) → x || (y || z) ≡ y || (x || z)
or_swap true true z = refl
or_swap true false z = refl
or_swap false y z = refl

pub or_group : (x y z : Bool) → (x || y) || z ≡ x || (y || z)
or_group true y z = refl
or_group false y z = refl

-- the two tests of `with_range`, by cases
module _ (r s : ℕ × ℕ) (ss : List (ℕ × ℕ)) where
  with_range-before : nat_lt (r.1 + 1) s.0 ≡ true → with_range r (s ∷ ss) ≡ r ∷ s ∷ ss
  with_range-before h = cond-true (nat_lt (r.1 + 1) s.0) _ _ h

  with_range-after : nat_lt (r.1 + 1) s.0 ≡ false → nat_lt (s.1 + 1) r.0 ≡ true
      → with_range r (s ∷ ss) ≡ s ∷ with_range r ss
  with_range-after h k = cond-false (nat_lt (r.1 + 1) s.0) _ _ h ∙ cond-true (nat_lt (s.1 + 1) r.0) _ _ k

  with_range-joined : nat_lt (r.1 + 1) s.0 ≡ false → nat_lt (s.1 + 1) r.0 ≡ false
      → with_range r (s ∷ ss) ≡ with_range (min r.0 s.0, max r.1 s.1) ss
  with_range-joined h k = cond-false (nat_lt (r.1 + 1) s.0) _ _ h ∙ cond-false (nat_lt (s.1 + 1) r.0) _ _ k

-- a property of `with_range r (s ∷ ss)` by its three cases
pub three : (P : List (ℕ × ℕ) → Type 0) (r s : ℕ × ℕ) (ss : List (ℕ × ℕ))
    → (r.1 + 1 < s.0 → P (r ∷ s ∷ ss))
    → (s.0 ≤ r.1 + 1 → s.1 + 1 < r.0 → P (s ∷ with_range r ss))
    → (s.0 ≤ r.1 + 1 → r.0 ≤ s.1 + 1 → P (with_range (min r.0 s.0, max r.1 s.1) ss))
    → P (with_range r (s ∷ ss))
three P r s ss before after joined =
    elim (cases_Bool (nat_lt (r.1 + 1) s.0)) [
      | inl e ↦ subst P (sym (with_range-before r s ss e)) (before (ltb-true (r.1 + 1) s.0 e))
      | inr e ↦ elim (cases_Bool (nat_lt (s.1 + 1) r.0)) [
        | inl f ↦ subst P (sym (with_range-after r s ss e f))
            (after (ltb-false (r.1 + 1) s.0 e) (ltb-true (s.1 + 1) r.0 f))
        | inr f ↦ subst P (sym (with_range-joined r s ss e f))
            (joined (ltb-false (r.1 + 1) s.0 e) (ltb-false (s.1 + 1) r.0 f))
      ]
    ]

pub has-with_range : (low : ℕ) (r : ℕ × ℕ) (ss : List (ℕ × ℕ)) (n : ℕ) → r.0 ≤ r.1 → Rises low ss
    → has (with_range r ss) n ≡ is_within r n || has ss n
has-with_range low r [] n up h = refl
has-with_range low r (s ∷ ss) n up h =
    three (λ l. has l n ≡ is_within r n || (is_within s n || has ss n)) r s ss
    (λ _. refl)
    (λ _ _. ap (λ b. is_within s n || b) (has-with_range (s.1 + 2) r ss n up h.2)
    ∙ or_swap (is_within s n) (is_within r n) (has ss n))
    (λ p q. has-with_range (s.1 + 2) (min r.0 s.0, max r.1 s.1) ss n (omega arith) h.2
    ∙ ap (λ b. b || has ss n) (is_within-joined r.0 r.1 s.0 s.1 n up h.1 p q)
    ∙ or_group (is_within r n) (is_within s n) (has ss n))

pub rises-with_range : (low : ℕ) (r : ℕ × ℕ) (ss : List (ℕ × ℕ)) → low ≤ r.0 → r.0 ≤ r.1 → Rises low ss
    → Rises low (with_range r ss)
rises-with_range low r [] a up h = (a, up, tt)
rises-with_range low r (s ∷ ss) a up h =
    three (Rises low) r s ss
    (λ p. (a, up, (omega arith, h.1, h.2)))
    (λ p q. (h.0, h.1, rises-with_range (s.1 + 2) r ss (omega arith) up h.2))
    (λ p q. rises-with_range low (min r.0 s.0, max r.1 s.1) ss (omega (arith, h.0)) (omega arith)
    (rises-lower low (s.1 + 2) ss (omega (arith, h.0, h.1)) h.2))

pub is_range-joined : (a b c d : ℕ) → is_range (a, b) ≡ true → is_range (c, d) ≡ true → c ≤ b + 1 → a ≤ d + 1
    → is_range (min a c, max b d) ≡ true
is_range-joined a b c d h k p q = grind (arith, nat_tests)

pub is_range-up : (r : ℕ × ℕ) → is_range r ≡ true → r.0 ≤ r.1
is_range-up r h = grind (arith, nat_tests)

-- a range ends at the last code point at most
pub is_range-below : (r : ℕ × ℕ) → is_range r ≡ true → r.1 < 0x110000
is_range-below r h = grind (arith, nat_tests)

pub are_ranges-parts : (low : ℕ) (r : ℕ × ℕ) (rs : List (ℕ × ℕ)) → are_ranges low (r ∷ rs) ≡ true
    → (low ≤ r.0) × (is_range r ≡ true) × (are_ranges (r.1 + 2) rs ≡ true)
are_ranges-parts low r rs h =
    let (front, rest) = and_parts (nat_le low r.0 && is_range r) (are_ranges (r.1 + 2) rs) h in
    let (above, range) = and_parts (nat_le low r.0) (is_range r) front in
    (leb-true low r.0 above, range, rest)

pub are_ranges-from : (low : ℕ) (r : ℕ × ℕ) (rs : List (ℕ × ℕ)) → low ≤ r.0 → is_range r ≡ true
    → are_ranges (r.1 + 2) rs ≡ true
    → are_ranges low (r ∷ rs) ≡ true
are_ranges-from low r rs a b c = and_from _ _ (and_from _ _ (le-leb low r.0 a) b) c

pub are_ranges-lower : (low high : ℕ) (rs : List (ℕ × ℕ)) → low ≤ high → are_ranges high rs ≡ true
    → are_ranges low rs ≡ true
are_ranges-lower low high [] l h = refl
are_ranges-lower low high (r ∷ rs) l h =
    let (a, b, c) = are_ranges-parts high r rs h in are_ranges-from low r rs (omega arith) b c

pub are_ranges-with_range : (low : ℕ) (r : ℕ × ℕ) (ss : List (ℕ × ℕ)) → low ≤ r.0 → is_range r ≡ true
    → are_ranges low ss ≡ true
    → are_ranges low (with_range r ss) ≡ true
are_ranges-with_range low r [] a range h = are_ranges-from low r [] a range refl
are_ranges-with_range low r (s ∷ ss) a range h =
    let (b, is, c) = are_ranges-parts low s ss h in
    let up : r.0 ≤ r.1 = is_range-up r range in
    let rise : s.0 ≤ s.1 = is_range-up s is in
    three (λ l. are_ranges low l ≡ true) r s ss
    (λ p. are_ranges-from low r (s ∷ ss) a range (are_ranges-from (r.1 + 2) s ss (omega arith) is c))
    (λ p q. are_ranges-from low s (with_range r ss) b is
    (are_ranges-with_range (s.1 + 2) r ss (omega arith) range c))
    (λ p q. are_ranges-with_range low (min r.0 s.0, max r.1 s.1) ss (omega arith)
    (is_range-joined r.0 r.1 s.0 s.1 range is p q) (are_ranges-lower low (s.1 + 2) ss (omega arith) c))

pub are_ranges-set_of : (rs : List (ℕ × ℕ)) → every_range rs ≡ true → are_ranges 0 (set_of rs) ≡ true
are_ranges-set_of [] h = refl
are_ranges-set_of (r ∷ rs) h =
    let (a, b) = and_parts (is_range r) (every_range rs) h in
    are_ranges-with_range 0 r (set_of rs) (omega arith) a (are_ranges-set_of rs b)

pub has-set_of : (rs : List (ℕ × ℕ)) (n : ℕ) → every_range rs ≡ true → has (set_of rs) n ≡ has rs n
has-set_of [] n h = refl
has-set_of (r ∷ rs) n h =
    let (a, b) = and_parts (is_range r) (every_range rs) h in
    has-with_range 0 r (set_of rs) n (is_range-up r a) (rises-are_ranges 0 (set_of rs) (are_ranges-set_of rs b))
    ∙ ap (λ t. is_within r n || t) (has-set_of rs n b)
