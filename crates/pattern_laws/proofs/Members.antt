-- The members of a list of ranges, and that a set has one such list.
use Rattle.std.proofs.Common.{◌≡◌, ℕ, ◌+◌, ◌<◌, ◌≤◌, ◌⊎◌, inl, inr, true, false, ◌&&◌, ◌||◌, nat_lt, nat_le, List, [], ◌∷◌, refl, ap, sym, ◌∙◌, arith}
use Rattle.std.proofs.lemmas.Bool.{true≢false, cases_lt, and_parts, and_from, or_left, or_from, leb-true, le-leb}
use Rattle.std.proofs.lemmas.Bool.Decides.{nat_tests}
use Rattle.patterns.specs.CharSet.{is_within, has, is_range, are_ranges}

-- rising ranges with a gap between each two, of any numbers
abbrev pub Rises : ℕ → List (ℕ × ℕ) → Type 0
Rises low [] = Unit {0}
Rises low (r ∷ rs) = (low ≤ r.0) × (r.0 ≤ r.1) × Rises (r.1 + 2) rs

-- ranges that pass the test rise, with gaps between them
pub rises-are_ranges : (low : ℕ) (rs : List (ℕ × ℕ)) → are_ranges low rs ≡ true → Rises low rs
rises-are_ranges low [] h = tt
rises-are_ranges low (r ∷ rs) h =
    let (front, rest) = and_parts (nat_le low r.0 && is_range r) (are_ranges (r.1 + 2) rs) h in
    let (above, range) = and_parts (nat_le low r.0) (is_range r) front in
    let (up, in_block) =
    and_parts (nat_le r.0 r.1) (nat_lt r.1 0xd800 || (nat_lt 0xdfff r.0 && nat_lt r.1 0x110000)) range in
    (leb-true low r.0 above, leb-true r.0 r.1 up, rises-are_ranges (r.1 + 2) rs rest)

pub rises-lower : (low high : ℕ) (rs : List (ℕ × ℕ)) → low ≤ high → Rises high rs → Rises low rs
rises-lower low high [] l h = tt
rises-lower low high (r ∷ rs) l h = (omega (arith, h.0), h.1, h.2)

is_within-inside : (r : ℕ × ℕ) (c : ℕ) → r.0 ≤ c → c ≤ r.1 → is_within r c ≡ true
is_within-inside r c a b = and_from (nat_le r.0 c) (nat_le c r.1) (le-leb r.0 c a) (le-leb c r.1 b)

pub is_within-true : (r : ℕ × ℕ) (c : ℕ) → is_within r c ≡ true → (r.0 ≤ c) × (c ≤ r.1)
is_within-true r c h =
    let (a, b) = and_parts (nat_le r.0 c) (nat_le c r.1) h in (leb-true r.0 c a, leb-true c r.1 b)

pub is_within-outside : (r : ℕ × ℕ) (c : ℕ) → (c < r.0) ⊎ (r.1 < c) → is_within r c ≡ false
is_within-outside r c h = grind (arith, nat_tests)

-- nothing lies below the first range
pub has-below : (low : ℕ) (rs : List (ℕ × ℕ)) (c : ℕ) → Rises low rs → c < low → has rs c ≡ false
has-below low [] c h l = refl
has-below low (r ∷ rs) c h l =
    or_from (is_within r c) (has rs c) (is_within-outside r c (inl (omega (arith, h.0))))
    (has-below (r.1 + 2) rs c h.2 (omega (arith, h.0, h.1)))

has-first : (low : ℕ) (r : ℕ × ℕ) (rs : List (ℕ × ℕ)) (c : ℕ) → Rises low (r ∷ rs) → has (r ∷ rs) c ≡ true
    → r.0 ≤ c
has-first low r rs c h e =
    elim (cases_lt c r.0) [
      | inl l ↦ absurd (true≢false (sym e ∙ has-below r.0 (r ∷ rs) c (omega arith, h.1, h.2) l))
      | inr l ↦ l
    ]

has-after : (low : ℕ) (r : ℕ × ℕ) (rs : List (ℕ × ℕ)) (c : ℕ) → Rises low (r ∷ rs) → r.1 < c
    → has (r ∷ rs) c ≡ has rs c
has-after low r rs c h l = ap (λ b. b || has rs c) (is_within-outside r c (inr l))

pub has-inside : (r : ℕ × ℕ) (rs : List (ℕ × ℕ)) (c : ℕ) → r.0 ≤ c → c ≤ r.1 → has (r ∷ rs) c ≡ true
has-inside r rs c a b = or_left (is_within r c) (has rs c) (is_within-inside r c a b)

-- the first range ends no later where every member of it is one of the other list
first_ends : (low : ℕ) (r q : ℕ × ℕ) (rs qs : List (ℕ × ℕ)) → Rises low (r ∷ rs) → Rises low (q ∷ qs)
    → r.0 ≡ q.0
    → ((c : ℕ) → has (r ∷ rs) c ≡ has (q ∷ qs) c) → r.1 ≤ q.1
first_ends low r q rs qs hr hq e same =
    elim (cases_lt q.1 r.1) [
      | inl l ↦ absurd (true≢false (
          sym (has-inside r rs (q.1 + 1) (omega (arith, hq.1, e)) (omega arith)) ∙ same (q.1 + 1)
          ∙ has-after low q qs (q.1 + 1) hq (omega arith)
          ∙ has-below (q.1 + 2) qs (q.1 + 1) hq.2 (omega arith)))
      | inr l ↦ l
    ]

rest_same : (low : ℕ) (r q : ℕ × ℕ) (rs qs : List (ℕ × ℕ)) → Rises low (r ∷ rs) → Rises low (q ∷ qs) → r.1 ≡ q.1
    → ((c : ℕ) → has (r ∷ rs) c ≡ has (q ∷ qs) c) → (c : ℕ) → has rs c ≡ has qs c
rest_same low r q rs qs hr hq e same c =
    elim (cases_lt r.1 c) [
      | inl l ↦ sym (has-after low r rs c hr l) ∙ same c ∙ has-after low q qs c hq (omega (arith, e))
      | inr l ↦ has-below (r.1 + 2) rs c hr.2 (omega arith)
          ∙ sym (has-below (q.1 + 2) qs c hq.2 (omega (arith, e)))
    ]

pair_same : (r q : ℕ × ℕ) → r.0 ≡ q.0 → r.1 ≡ q.1 → r ≡ q
pair_same (a, b) (c, d) e f = cc

-- rising ranges with the same members are the same
pub same_members : (low : ℕ) (rs qs : List (ℕ × ℕ)) → Rises low rs → Rises low qs
    → ((c : ℕ) → has rs c ≡ has qs c) → rs ≡ qs
same_members low [] [] hr hq same = refl
same_members low [] (q ∷ qs) hr hq same =
    absurd (true≢false (sym (has-inside q qs q.0 (omega arith) hq.1) ∙ sym (same q.0)))
same_members low (r ∷ rs) [] hr hq same =
    absurd (true≢false (sym (has-inside r rs r.0 (omega arith) hr.1) ∙ same r.0))
same_members low (r ∷ rs) (q ∷ qs) hr hq same =
    let above : q.0 ≤ r.0 =
    has-first low q qs r.0 hq (sym (same r.0) ∙ has-inside r rs r.0 (omega arith) hr.1) in
    let below : r.0 ≤ q.0 = has-first low r rs q.0 hr (same q.0 ∙ has-inside q qs q.0 (omega arith) hq.1) in
    let first : r.0 ≡ q.0 = omega arith in
    let up : r.1 ≤ q.1 = first_ends low r q rs qs hr hq first same in
    let down : q.1 ≤ r.1 = first_ends low q r qs rs hq hr (sym first) (λ c. sym (same c)) in
    let last : r.1 ≡ q.1 = omega arith in
    let after : rs ≡ qs =
    same_members (r.1 + 2) rs qs hr.2 (rises-lower (r.1 + 2) (q.1 + 2) qs (omega (arith, last)) hq.2)
    (rest_same low r q rs qs hr hq last same) in
    let whole : r ≡ q = pair_same r q first last in cc
