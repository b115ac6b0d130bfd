-- Spans of characters in the order in which words are made, and the first member after a character.
use Rattle.std.proofs.Common.{◌≡◌, ℕ, ◌+◌, ◌<◌, ◌≤◌, inl, inr, max, Bool, true, false, ◌&&◌, ◌||◌, nat_eq, nat_lt, nat_le, List, [], ◌∷◌, Option, Some, None, refl, arith, sym, ◌∙◌}
use Rattle.std.specs.List.{list_all, list_any}
use Rattle.std.proofs.lemmas.Bool.{true≢false, cases_lt, and_parts, and_from, or_cases, le-leb}
use Rattle.std.proofs.lemmas.Bool.Decides.{nat_tests}
use Rattle.patterns.specs.CharSet.{has, is_within, are_ranges, group_of, comes_no_later}
use Rattle.pattern_laws.proofs.Members.{is_within-true}
use Rattle.pattern_laws.proofs.Sets.{are_ranges-parts, is_range-below}
use Rattle.js_pattern.specs.Ranges.{FirstWithin}
use Rattle.js_pattern.specs.Order.{ComesAfter, NextAfter, NextWithin, IsOneGroup}

-- the characters of a span come before those of another
abbrev pub is_before : ℕ × ℕ → ℕ × ℕ → Bool
is_before s t = nat_lt (group_of s.0) (group_of t.0) || (nat_eq (group_of s.0) (group_of t.0) && nat_lt s.1 t.0)

-- each span comes before those behind it
abbrev pub are_in_order : List (ℕ × ℕ) → Bool
are_in_order [] = true
are_in_order (s ∷ ss) = list_all (is_before s) ss && are_in_order ss

abbrev pub AreGroups : List (ℕ × ℕ) → Type 0
AreGroups [] = Unit {0}
AreGroups (s ∷ ss) = IsOneGroup s × AreGroups ss

-- by groups and numbers
is_later : (g h e c : ℕ) → (nat_lt g h || (nat_eq g h && nat_le e c)) ≡ false → (h ≤ g) × (g ≡ h → c < e)
is_later g h e c t = (grind (arith, nat_tests, t), λ s. grind (arith, nat_tests, t, s))

told_later : (g h e c : ℕ) → h ≤ g → (g ≡ h → c < e) → (nat_lt g h || (nat_eq g h && nat_le e c)) ≡ false
told_later g h e c l k =
    elim (cases_lt h g) [
      | inl m ↦ grind (arith, nat_tests)
      | inr m ↦ let s : g ≡ h = omega arith in let n : c < e = k s in grind (arith, nat_tests)
    ]

told_no_later : (g h e c : ℕ) → g ≤ h → (g ≡ h → e ≤ c) → (nat_lt g h || (nat_eq g h && nat_le e c)) ≡ true
told_no_later g h e c l k =
    elim (cases_lt g h) [
      | inl m ↦ grind (arith, nat_tests)
      | inr m ↦ let s : g ≡ h = omega arith in let n : e ≤ c = k s in grind (arith, nat_tests)
    ]

-- in a span, what comes after c begins at the number `low`
pub record Begins (c : ℕ) (s : ℕ × ℕ) (low : ℕ) : Type 0 where
  pub inside : s.0 ≤ low
  pub after : (e : ℕ) → is_within s e ≡ true → low ≤ e → ComesAfter e c
  pub before : (e : ℕ) → is_within s e ≡ true → ComesAfter e c → low ≤ e

module _ (c : ℕ) (s : ℕ × ℕ) (one : IsOneGroup s) where
  pub begins-same : (low : ℕ) → group_of s.0 ≡ group_of c → low ≡ max s.0 (c + 1) → Begins c s low
  begins-same low g m = record {
    inside = omega arith;
    after = λ e w l. told_later (group_of e) (group_of c) e c (omega (arith, one e w)) (λ _. omega arith);
    before = λ e w a.
        let above = (is_within-true s e w).0 in
        let later : c < e = (is_later (group_of e) (group_of c) e c a).1 (one e w ∙ g) in omega arith;
  }

  pub begins-later : group_of c < group_of s.0 → Begins c s s.0
  begins-later g = record {
    inside = omega arith;
    after = λ e w l.
        let higher : group_of c < group_of e = omega (arith, one e w) in
        told_later (group_of e) (group_of c) e c (omega arith) (λ x. absurd (omega arith));
    before = λ e w a. (is_within-true s e w).0;
  }

pub next_within : (set : List (ℕ × ℕ)) (c : ℕ) (s : ℕ × ℕ) (low : ℕ) (o : Option ℕ) → Begins c s low
    → FirstWithin set low s.1 o → NextWithin set c s o
next_within set c s low None b h = λ e w a. h e (b.before e w a) (is_within-true s e w).1
next_within set c s low (Some d) b h =
    let w : is_within s d ≡ true =
    and_from (nat_le s.0 d) (nat_le d s.1) (le-leb s.0 d (omega (arith, b.inside, h.1))) (le-leb d s.1 h.2) in
    (h.0, w, b.after d w h.1, λ e v a m. h.3 e (b.before e v a) m)

-- each member is a code point
pub has-small : (low : ℕ) (set : List (ℕ × ℕ)) (e : ℕ) → are_ranges low set ≡ true → has set e ≡ true
    → e ≤ 0x10ffff
has-small low [] e h m = absurd (true≢false (sym m))
has-small low (r ∷ rs) e h m =
    let (above, range, rest) = are_ranges-parts low r rs h in
    elim (or_cases (is_within r e) (has rs e) m) [
      | inl w ↦ let high = (is_within-true r e w).1 in let end = is_range-below r range in omega arith
      | inr w ↦ has-small (r.1 + 2) rs e rest w
    ]

-- what is in a later span comes later
behind : (s : ℕ × ℕ) (d e : ℕ) (ss : List (ℕ × ℕ)) → IsOneGroup s → is_within s d ≡ true → AreGroups ss
    → list_all (is_before s) ss ≡ true → list_any (λ t. is_within t e) ss ≡ true → comes_no_later d e ≡ true
behind s d e [] one w all order m = absurd (true≢false (sym m))
behind s d e (t ∷ ss) one w all order m =
    let (first, rest) = and_parts (is_before s t) (list_all (is_before s) ss) order in
    elim (or_cases (is_within t e) (list_any (λ t. is_within t e) ss) m) [
      | inl v ↦ two first v
      | inr v ↦ behind s d e ss one w all.1 rest v
    ]
  where
    two : is_before s t ≡ true → is_within t e ≡ true → comes_no_later d e ≡ true
    two before v =
        let high = (is_within-true s d w).1 in
        let low = (is_within-true t e v).0 in
        let x = one d w in
        let y = all.0 e v in
        let g = group_of s.0 in
        let h = group_of t.0 in
        elim (or_cases (nat_lt g h) (nat_eq g h && nat_lt s.1 t.0) before) [
          | inl l ↦ told_no_later (group_of d) (group_of e) d e (grind (arith, nat_tests)) (grind (arith, nat_tests))
          | inr l ↦ told_no_later (group_of d) (group_of e) d e (grind (arith, nat_tests)) (grind (arith, nat_tests))
        ]

-- what is left to be seen while the spans are gone through: they are in order, each of one group, and every member
-- that comes after c lies in one of them
pub record AreLeft (set : List (ℕ × ℕ)) (c : ℕ) (spans : List (ℕ × ℕ)) : Type 0 where
  pub groups : AreGroups spans
  pub order : are_in_order spans ≡ true
  pub covers : (e : ℕ) → ComesAfter e c → has set e ≡ true → list_any (λ s. is_within s e) spans ≡ true

pub found : (set : List (ℕ × ℕ)) (c : ℕ) (s : ℕ × ℕ) (ss : List (ℕ × ℕ)) (d : ℕ) → AreLeft set c (s ∷ ss)
    → NextWithin set c s (Some d) → NextAfter set c (Some d)
found set c s ss d left h =
    let order = and_parts (list_all (is_before s) ss) (are_in_order ss) left.order in (
      h.0,
      h.2,
      λ e a m. elim (or_cases (is_within s e) (list_any (λ t. is_within t e) ss) (left.covers e a m)) [
        | inl v ↦
            let x = left.groups.0 d h.1 in
            let y = left.groups.0 e v in
            told_no_later (group_of d) (group_of e) d e (omega arith) (λ _. h.3 e v a m)
        | inr v ↦ behind s d e ss left.groups.0 h.1 left.groups.1 order.0 v
      ],
    )

pub passed : (set : List (ℕ × ℕ)) (c : ℕ) (s : ℕ × ℕ) (ss : List (ℕ × ℕ)) → AreLeft set c (s ∷ ss)
    → NextWithin set c s None → AreLeft set c ss
passed set c s ss left h = record {
  groups = left.groups.1;
  order = (and_parts (list_all (is_before s) ss) (are_in_order ss) left.order).1;
  covers = λ e a m.
      elim (or_cases (is_within s e) (list_any (λ t. is_within t e) ss) (left.covers e a m)) [
        | inl v ↦ absurd (true≢false (sym m ∙ h e v a))
        | inr v ↦ v
      ];
}

pub ended : (set : List (ℕ × ℕ)) (c : ℕ) → AreLeft set c [] → NextAfter set c None
ended set c left = λ e a. not_true (has set e) (λ m. true≢false (sym (left.covers e a m)))
  where
    not_true : (b : Bool) → ¬ (b ≡ true) → b ≡ false
    not_true true n = absurd (n refl)
    not_true false n = refl

-- the nine spans
small : (e : ℕ) → is_within (97, 122) e ≡ true → group_of e ≡ 0
small e w = grind (arith, nat_tests)

capital : (e : ℕ) → is_within (65, 90) e ≡ true → group_of e ≡ 1
capital e w = grind (arith, nat_tests)

digit : (e : ℕ) → is_within (48, 57) e ≡ true → group_of e ≡ 2
digit e w = grind (arith, nat_tests)

before_digits : (e : ℕ) → is_within (32, 47) e ≡ true → group_of e ≡ 3
before_digits e w = grind (arith, nat_tests)

before_capitals : (e : ℕ) → is_within (58, 64) e ≡ true → group_of e ≡ 3
before_capitals e w = grind (arith, nat_tests)

before_small : (e : ℕ) → is_within (91, 96) e ≡ true → group_of e ≡ 3
before_small e w = grind (arith, nat_tests)

after_small : (e : ℕ) → is_within (123, 126) e ≡ true → group_of e ≡ 3
after_small e w = grind (arith, nat_tests)

control : (e : ℕ) → is_within (0, 31) e ≡ true → group_of e ≡ 4
control e w = grind (arith, nat_tests)

beyond : (e : ℕ) → is_within (127, 0x10ffff) e ≡ true → group_of e ≡ 4
beyond e w = grind (arith, nat_tests)

abbrev pub spans : List (ℕ × ℕ)
spans =
    (97, 122) ∷ (65, 90) ∷ (48, 57) ∷ (32, 47) ∷ (58, 64) ∷ (91, 96) ∷ (123, 126) ∷ (0, 31) ∷ (127, 0x10ffff) ∷ []

groups : AreGroups spans
groups = (
  small,
  (capital, (digit, (before_digits, (before_capitals, (before_small, (after_small, (control, (beyond, tt)))))))),
)

everywhere : (e : ℕ) → e ≤ 0x10ffff → list_any (λ s. is_within s e) spans ≡ true
everywhere e l = grind (arith, nat_tests)

pub all_left : (set : List (ℕ × ℕ)) (c : ℕ) → are_ranges 0 set ≡ true → AreLeft set c spans
all_left set c h = record { groups = groups; order = refl; covers = λ e a m. everywhere e (has-small 0 set e h m) }
