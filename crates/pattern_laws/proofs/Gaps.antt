-- What the complement of a set has.
use Rattle.std.proofs.Common.{◌≡◌, ℕ, ◌+◌, ◌-◌, ◌<◌, ◌≤◌, inl, inr, min, max, Bool, true, false, ◌&&◌, ◌||◌, not, nat_lt, nat_le, List, [], ◌∷◌, refl, ap, sym, ◌∙◌, subst, arith}
use Rattle.std.proofs.lemmas.Bool.{true≢false, cases_Bool, cases_lt, and_parts, and_from, or_cases, or_left, leb-true, ltb-true, ltb-false, le-leb, cond-true, cond-false}
use Rattle.std.proofs.lemmas.Bool.Decides.{nat_tests}
use Rattle.patterns.specs.CharSet.{is_scalar, is_within, has, is_range, are_ranges, with_range, gaps_from, complement_of}
use Rattle.pattern_laws.proofs.Members.{Rises, rises-are_ranges, rises-lower, has-below}
use Rattle.pattern_laws.proofs.Sets.{has-with_range, rises-with_range, three, are_ranges-parts, is_range-below}

-- a code point from `low` on that the ranges lack
abbrev is_gap : ℕ → List (ℕ × ℕ) → ℕ → Bool
is_gap low rs n = nat_le low n && nat_lt n 0x110000 && not (has rs n)

is_gap-end : (low n : ℕ) → low < 0x110000
    → is_within (low, 0x10ffff) n || false ≡ nat_le low n && nat_lt n 0x110000 && true
is_gap-end low n h = grind (arith, nat_tests)

is_gap-none : (low n : ℕ) → 0x110000 ≤ low → false ≡ nat_le low n && nat_lt n 0x110000 && true
is_gap-none low n h = grind (arith, nat_tests)

-- before a range, a gap; below it nothing of the later ranges
is_gap-before : (low a b n : ℕ) (later : Bool) → low < a → a ≤ b → b < 0x110000 → (n < b + 2 → later ≡ false)
    → is_within (low, a - 1) n || (nat_le (b + 1) n && nat_lt n 0x110000 && not later)
    ≡ nat_le low n && nat_lt n 0x110000 && not (is_within (a, b) n || later)
is_gap-before low a b n true h k l f = grind (arith, nat_tests)
is_gap-before low a b n false h k l f = grind (arith, nat_tests)

is_gap-at : (low a b n : ℕ) (later : Bool) → low ≡ a → a ≤ b → b < 0x110000 → (n < b + 2 → later ≡ false)
    → nat_le (b + 1) n && nat_lt n 0x110000 && not later
    ≡ nat_le low n && nat_lt n 0x110000 && not (is_within (a, b) n || later)
is_gap-at low a b n true h k l f = grind (arith, nat_tests)
is_gap-at low a b n false h k l f = grind (arith, nat_tests)

-- each range ends at a code point
abbrev pub Ends : List (ℕ × ℕ) → Type 0
Ends [] = Unit {0}
Ends (r ∷ rs) = (r.1 < 0x110000) × Ends rs

-- a property of `gaps_from low (r ∷ rs)` by its two cases
two : (P : List (ℕ × ℕ) → Type 0) (low : ℕ) (r : ℕ × ℕ) (rs : List (ℕ × ℕ))
    → (low < r.0 → P ((low, r.0 - 1) ∷ gaps_from (r.1 + 1) rs)) → (r.0 ≤ low → P (gaps_from (r.1 + 1) rs))
    → P (gaps_from low (r ∷ rs))
two P low r rs gap none =
    elim (cases_Bool (nat_lt low r.0)) [
      | inl e ↦ subst P (sym (cond-true (nat_lt low r.0) _ _ e)) (gap (ltb-true low r.0 e))
      | inr e ↦ subst P (sym (cond-false (nat_lt low r.0) _ _ e)) (none (ltb-false low r.0 e))
    ]

-- the gap after the last range, or none
last_gap : (P : List (ℕ × ℕ) → Type 0) (low : ℕ) → (low < 0x110000 → P ((low, 0x10ffff) ∷ []))
    → (0x110000 ≤ low → P []) → P (gaps_from low [])
last_gap P low gap none =
    elim (cases_Bool (nat_lt low 0x110000)) [
      | inl e ↦ subst P (sym (cond-true (nat_lt low 0x110000) _ _ e)) (gap (ltb-true low 0x110000 e))
      | inr e ↦ subst P (sym (cond-false (nat_lt low 0x110000) _ _ e)) (none (ltb-false low 0x110000 e))
    ]

pub has-gaps_from : (low : ℕ) (rs : List (ℕ × ℕ)) (n : ℕ) → Rises low rs → Ends rs
    → has (gaps_from low rs) n ≡ is_gap low rs n
has-gaps_from low [] n h e =
    last_gap (λ l. has l n ≡ nat_le low n && nat_lt n 0x110000 && true) low (is_gap-end low n)
    (is_gap-none low n)
has-gaps_from low (r ∷ rs) n h e =
    let later : has (gaps_from (r.1 + 1) rs) n ≡ is_gap (r.1 + 1) rs n =
    has-gaps_from (r.1 + 1) rs n (rises-lower (r.1 + 1) (r.1 + 2) rs (omega arith) h.2) e.1 in
    let none : n < r.1 + 2 → has rs n ≡ false = λ l. has-below (r.1 + 2) rs n h.2 l in
    two (λ l. has l n ≡ is_gap low (r ∷ rs) n) low r rs
    (λ l. ap (λ b. is_within (low, r.0 - 1) n || b) later
    ∙ is_gap-before low r.0 r.1 n (has rs n) l h.1 e.0 none)
    (λ l. later ∙ is_gap-at low r.0 r.1 n (has rs n) (omega (arith, h.0)) h.1 e.0 none)

-- a gap has no surrogate, since the ranges have them all
is_range-gap : (low a : ℕ) → low < a → a < 0x110001
    → ((n : ℕ) → 0xd800 ≤ n → n < 0xe000 → low ≤ n → n < a → ⊥) → is_range (low, a - 1) ≡ true
is_range-gap low a l k none =
    elim (cases_lt low 0xd800) [
      | inl x ↦ elim (cases_lt 0xd800 a) [
        | inl y ↦ absurd (none 0xd800 (omega arith) (omega arith) (omega arith) y)
        | inr y ↦ grind (arith, nat_tests)
      ]
      | inr x ↦ elim (cases_lt low 0xe000) [
        | inl y ↦ absurd (none low x y (omega arith) l)
        | inr y ↦ grind (arith, nat_tests)
      ]
    ]

-- the ranges from `low` on have each surrogate from `low` on
abbrev HasSurrogates : ℕ → List (ℕ × ℕ) → Type 0
HasSurrogates low rs = (n : ℕ) → low ≤ n → 0xd800 ≤ n → n < 0xe000 → has rs n ≡ true

has-later : (r : ℕ × ℕ) (rs : List (ℕ × ℕ)) (n : ℕ) → r.1 < n → has (r ∷ rs) n ≡ true → has rs n ≡ true
has-later r rs n l h =
    elim (or_cases (is_within r n) (has rs n) h) [
      | inl e ↦ absurd (let (a, b) = and_parts (nat_le r.0 n)
          (nat_le n r.1) e in let c : n ≤ r.1 = leb-true n r.1 b in omega arith)
      | inr e ↦ e
    ]

surrogates_later : (low : ℕ) (r : ℕ × ℕ) (rs : List (ℕ × ℕ)) → low ≤ r.0 → r.0 ≤ r.1
    → HasSurrogates low (r ∷ rs) → HasSurrogates (r.1 + 1) rs
surrogates_later low r rs a up h n l x y = has-later r rs n (omega arith) (h n (omega arith) x y)

pub are_ranges-gaps_from : (floor low : ℕ) (rs : List (ℕ × ℕ)) → floor ≤ low → Rises low rs → Ends rs
    → HasSurrogates low rs
    → are_ranges floor (gaps_from low rs) ≡ true
are_ranges-gaps_from floor low [] f h e s =
    last_gap (λ l. are_ranges floor l ≡ true) low
    (λ l. and_from _ _ (and_from _ _ (le-leb floor low f)
    (is_range-gap low 0x110000 l (omega arith) (λ n x y p q. true≢false (sym (s n p x y))))) refl)
    (λ l. refl)
are_ranges-gaps_from floor low (r ∷ rs) f h e s =
    let rest : HasSurrogates (r.1 + 1) rs = surrogates_later low r rs h.0 h.1 s in
    let rises : Rises (r.1 + 1) rs = rises-lower (r.1 + 1) (r.1 + 2) rs (omega arith) h.2 in
    two (λ l. are_ranges floor l ≡ true) low r rs
    (λ l. and_from _ _
    (and_from _ _ (le-leb floor low f) (is_range-gap low r.0 l (omega (arith, h.1, e.0))
    (λ n x y p q. true≢false (sym (s n p x y) ∙ has-below r.0 (r ∷ rs) n (omega arith, h.1, h.2) q))))
    (are_ranges-gaps_from (r.0 - 1 + 2) (r.1 + 1) rs (omega (arith, h.1)) rises e.1 rest))
    (λ l. are_ranges-gaps_from floor (r.1 + 1) rs (omega (arith, h.0, h.1)) rises e.1 rest)

ends-with_range : (r : ℕ × ℕ) (ss : List (ℕ × ℕ)) → r.1 < 0x110000 → Ends ss → Ends (with_range r ss)
ends-with_range r [] h k = (h, tt)
ends-with_range r (s ∷ ss) h k =
    three Ends r s ss
    (λ _. (h, k))
    (λ _ _. (k.0, ends-with_range r ss h k.1))
    (λ _ _. ends-with_range (min r.0 s.0, max r.1 s.1) ss (omega (arith, k.0)) k.1)

pub ends-are_ranges : (low : ℕ) (rs : List (ℕ × ℕ)) → are_ranges low rs ≡ true → Ends rs
ends-are_ranges low [] h = tt
ends-are_ranges low (r ∷ rs) h =
    let (above, range, rest) = are_ranges-parts low r rs h in
    let below : r.1 < 0x110000 = is_range-below r range in (below, ends-are_ranges (r.1 + 2) rs rest)

scalar_left : (n : ℕ) (b : Bool)
    → nat_le 0 n && nat_lt n 0x110000 && not (is_within (0xd800, 0xdfff) n || b) ≡ is_scalar n && not b
scalar_left n true = grind (arith, nat_tests)
scalar_left n false = grind (arith, nat_tests)

-- what the complement is made of: the set with the surrogates
module _ (s : List (ℕ × ℕ)) (h : are_ranges 0 s ≡ true) where
  whole : List (ℕ × ℕ)
  whole = with_range (0xd800, 0xdfff) s

  has-whole : (n : ℕ) → has whole n ≡ is_within (0xd800, 0xdfff) n || has s n
  unfolding whole
  has-whole n = has-with_range 0 (0xd800, 0xdfff) s n (omega arith) (rises-are_ranges 0 s h)

  rises-whole : Rises 0 whole
  unfolding whole
  rises-whole = rises-with_range 0 (0xd800, 0xdfff) s (omega arith) (omega arith) (rises-are_ranges 0 s h)

  ends-whole : Ends whole
  unfolding whole
  ends-whole = ends-with_range (0xd800, 0xdfff) s (omega arith) (ends-are_ranges 0 s h)

  -- the complement is a list of ranges in their one form
  pub are_ranges-complement_of : are_ranges 0 (complement_of s) ≡ true
  unfolding whole
  are_ranges-complement_of =
      are_ranges-gaps_from 0 0 whole (omega arith) rises-whole ends-whole
      (λ n _ x y. has-whole n
      ∙ or_left _ (has s n) (and_from _ _ (le-leb 0xd800 n x) (le-leb n 0xdfff (omega arith))))

  -- the complement has just the scalar values that the set hasn't
  pub has-complement_of : (n : ℕ) → has (complement_of s) n ≡ is_scalar n && not (has s n)
  unfolding whole
  has-complement_of n =
      has-gaps_from 0 whole n rises-whole ends-whole
      ∙ ap (λ b. nat_le 0 n && nat_lt n 0x110000 && not b) (has-whole n) ∙ scalar_left n (has s n)
