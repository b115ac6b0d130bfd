-- What the operations on sets need of their ranges, and what they give.
use Rattle.std.proofs.Common.{◌≡◌, ◌↔◌, ℕ, ◌+◌, ◌-◌, ◌<◌, ◌≤◌, inl, inr, max, min, true, false, ◌&&◌, ◌||◌, nat_le, nat_lt, List, [], ◌∷◌, ◌++◌, Option, Some, None, refl, ap, sym, ◌∙◌, subst, arith}
use Rattle.std.specs.Option.{SomeIff, IsSome, IsNone}
use Rattle.std.specs.Char.{IsScalar, InScalarRange}
use Rattle.std.proofs.lemmas.Bool.{true≢false, cases_lt, and_parts, and_from, or_cases, leb-true, ltb-true, le-leb, lt-ltb}
use Rattle.patterns.specs.CharSet.{is_within, has, is_range, are_ranges, with_range}
use Rattle.pattern_laws.specs.Laws.{every_range, width_of}
use Rattle.pattern_laws.proofs.Members.{Rises, rises-are_ranges, has-below, has-inside, is_within-outside}
use Rattle.pattern_laws.proofs.Sets.{three, are_ranges-parts, are_ranges-lower, is_range-up, is_range-below, or_group}
use Rattle.js_pattern.specs.Ranges.{are_up, FirstWithin}
use Rattle.js_pattern.proofs.Joins.{are_up-every_range}

pub every_range-ranges : (low : ℕ) (s : List (ℕ × ℕ)) → are_ranges low s ≡ true → every_range s ≡ true
every_range-ranges low [] h = refl
every_range-ranges low (r ∷ rs) h =
    let (above, range, rest) =
    are_ranges-parts low r rs h in and_from _ _ range (every_range-ranges (r.1 + 2) rs rest)

pub are_up-ranges : (s : List (ℕ × ℕ)) → are_ranges 0 s ≡ true → are_up s ≡ true
are_up-ranges s h = are_up-every_range s (every_range-ranges 0 s h)

are_up-from : (r : ℕ × ℕ) (rs : List (ℕ × ℕ)) → r.0 ≤ r.1 → r.1 < 0x110000 → are_up rs ≡ true
    → are_up (r ∷ rs) ≡ true
are_up-from r rs a b c = and_from _ _ (and_from _ _ (le-leb r.0 r.1 a) (lt-ltb r.1 0x110000 b)) c

pub are_up-with_range : (r : ℕ × ℕ) (ss : List (ℕ × ℕ)) → r.0 ≤ r.1 → r.1 < 0x110000 → are_up ss ≡ true
    → are_up (with_range r ss) ≡ true
are_up-with_range r [] up end h = are_up-from r [] up end refl
are_up-with_range r (s ∷ ss) up end h =
    let (front, rest) = and_parts (nat_le s.0 s.1 && nat_lt s.1 0x110000) (are_up ss) h in
    let (a, b) = and_parts (nat_le s.0 s.1) (nat_lt s.1 0x110000) front in
    let rise : s.0 ≤ s.1 = leb-true s.0 s.1 a in
    let small : s.1 < 0x110000 = ltb-true s.1 0x110000 b in
    three (λ l. are_up l ≡ true) r s ss
    (λ _. are_up-from r (s ∷ ss) up end h)
    (λ _ _. are_up-from s (with_range r ss) rise small (are_up-with_range r ss up end rest))
    (λ _ _. are_up-with_range (min r.0 s.0, max r.1 s.1) ss (omega arith) (omega arith) rest)

pub every_range-append : (xs ys : List (ℕ × ℕ)) → every_range xs ≡ true → every_range ys ≡ true
    → every_range (xs ++ ys) ≡ true
every_range-append [] ys h k = k
every_range-append (r ∷ rs) ys h k =
    let (a, b) = and_parts (is_range r) (every_range rs) h in and_from _ _ a (every_range-append rs ys b k)

pub has-append : (xs ys : List (ℕ × ℕ)) (n : ℕ) → has (xs ++ ys) n ≡ has xs n || has ys n
has-append [] ys n = refl
has-append (r ∷ rs) ys n =
    ap (λ b. is_within r n || b) (has-append rs ys n) ∙ sym (or_group (is_within r n) (has rs n) (has ys n))

width_of-room : (n low : ℕ) (rs : List (ℕ × ℕ)) → n ≡ 0x110000 → are_ranges low rs ≡ true
    → width_of rs ≤ n - low
width_of-room n low [] e h = omega arith
width_of-room n low (r ∷ rs) e h =
    let (above, range, rest) = are_ranges-parts low r rs h in
    let rise : r.0 ≤ r.1 = is_range-up r range in
    let small : r.1 < 0x110000 = is_range-below r range in
    let room : width_of rs ≤ n - (r.1 + 2) = width_of-room n (r.1 + 2) rs e rest in omega arith

pub width_of-small : (s : List (ℕ × ℕ)) → are_ranges 0 s ≡ true → width_of s ≤ 0x110000
width_of-small s h = width_of-room 0x110000 0 s refl h

scalar_within : (a b c : ℕ) → is_range (a, b) ≡ true → a ≤ c → c ≤ b → InScalarRange c
scalar_within a b c h k l =
    let (up, block) = and_parts (nat_le a b) (nat_lt b 0xd800 || (nat_lt 0xdfff a && nat_lt b 0x110000)) h in
    elim (or_cases (nat_lt b 0xd800) (nat_lt 0xdfff a && nat_lt b 0x110000) block) [
      | inl e ↦ inl (omega (arith, ltb-true b 0xd800 e))
      | inr e ↦
          let (low, high) = and_parts (nat_lt 0xdfff a) (nat_lt b 0x110000) e in
          let x : 0xdfff < a = ltb-true 0xdfff a low in
          let y : b < 0x110000 = ltb-true b 0x110000 high in inr (omega arith, omega arith)
    ]

-- the first range that does not end before `low`
module _ (low high code : ℕ) (r : ℕ × ℕ) (rs : List (ℕ × ℕ)) (h : are_ranges 0 (r ∷ rs) ≡ true)
    (reaches : low ≤ r.1) (is : code ≡ max low r.0) where
  rises : Rises 0 (r ∷ rs)
  rises = rises-are_ranges 0 (r ∷ rs) h

  found_has : has (r ∷ rs) code ≡ true
  found_has = has-inside r rs code (omega arith) (omega (arith, rises.1))

  found_least : (d : ℕ) → low ≤ d → has (r ∷ rs) d ≡ true → code ≤ d
  found_least d l e =
      elim (cases_lt d r.0) [
        | inl k ↦ absurd (true≢false (sym e ∙ has-below r.0 (r ∷ rs) d (omega arith, rises.1, rises.2) k))
        | inr k ↦ omega arith
      ]

  pub none_has : high < code → (d : ℕ) → low ≤ d → d ≤ high → has (r ∷ rs) d ≡ false
  none_has k d l m = has-below r.0 (r ∷ rs) d (omega arith, rises.1, rises.2) (omega arith)

  found_scalar : InScalarRange code
  found_scalar =
      let (above, range, rest) =
      are_ranges-parts 0 r rs h in scalar_within r.0 r.1 code range (omega arith) (omega (arith, rises.1))

  -- what `char::from_u32` answers
  pub found : (o : Option ℕ) → code ≤ high → SomeIff o (IsScalar code) code → (InScalarRange code → IsSome o)
      → FirstWithin (r ∷ rs) low high o
  found None l value succeeds = absurd (true≢false (sym (succeeds found_scalar)))
  found (Some c) l (scalar, e) succeeds =
      subst (λ n. (has (r ∷ rs) n ≡ true) × (low ≤ n) × (n ≤ high) ×
      ((d : ℕ) → low ≤ d → has (r ∷ rs) d ≡ true → n ≤ d)) (sym e)
      (found_has, omega arith, l, found_least)

-- a range that ends before `low` is passed over
pub passed_has : (low : ℕ) (r : ℕ × ℕ) (rs : List (ℕ × ℕ)) → r.1 < low → (d : ℕ) → low ≤ d
    → has rs d ≡ has (r ∷ rs) d
passed_has low r rs h d l = sym (ap (λ b. b || has rs d) (is_within-outside r d (inr (omega arith))))

pub passed_ranges : (r : ℕ × ℕ) (rs : List (ℕ × ℕ)) → are_ranges 0 (r ∷ rs) ≡ true → are_ranges 0 rs ≡ true
passed_ranges r rs h =
    let (above, range, rest) = are_ranges-parts 0 r rs h in are_ranges-lower 0 (r.1 + 2) rs (omega arith) rest

-- the answer for what is left is the answer for the whole, where nothing of the rest lies from `low` on
pub whole_first : (rest set : List (ℕ × ℕ)) (low high : ℕ) (o : Option ℕ)
    → ((d : ℕ) → low ≤ d → has rest d ≡ has set d)
    → FirstWithin rest low high o → FirstWithin set low high o
whole_first rest set low high None same h = λ d l m. sym (same d l) ∙ h d l m
whole_first rest set low high (Some c) same (member, a, b, least) =
    (sym (same c a) ∙ member, a, b, λ d l e. least d l (same d l ∙ e))

-- a set without a least member is empty
pub none_empty : (set : List (ℕ × ℕ)) (o : Option ℕ) → are_ranges 0 set ≡ true → FirstWithin set 0 0x10ffff o
    → IsNone o ↔ (set ≡ [])
none_empty [] None h f = (λ _. refl, λ _. refl)
none_empty [] (Some c) h f = absurd (true≢false (sym f.0))
none_empty (r ∷ rs) None h f =
    let (above, range, rest) = are_ranges-parts 0 r rs h in
    let up : r.0 ≤ r.1 = is_range-up r range in
    let small : r.1 < 0x110000 = is_range-below r range in
    absurd (true≢false (sym (has-inside r rs r.0 (omega arith) up) ∙ f r.0 (omega arith) (omega arith)))
none_empty (r ∷ rs) (Some c) h f = (λ e. cc, λ e. cc)
