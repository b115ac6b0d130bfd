-- Sorted ranges that are joined are the set of all of them.
use Rattle.std.proofs.Common.{◌≡◌, ℕ, suc, ◌+◌, ◌<◌, ◌≤◌, inl, inr, max, Bool, true, false, ◌&&◌, ◌||◌, not, nat_le, nat_lt, List, [], ◌∷◌, length, get_or, refl, ap, sym, ◌∙◌, subst, add-one, arith}
use Rattle.std.specs.List.{sum_by}
use Rattle.std.specs.List.Sorted.{IsPermutation, IsSorted}
use Rattle.std.specs.Ordering.{nat_cmp, ordering_then, is_lt}
use Rattle.std.specs.declared.cmp.Ordering.{Ordering}
use Rattle.std.proofs.lemmas.List.Sums.{sum_by-cons}
use Rattle.std.proofs.lemmas.List.Sorted.{sum_by-IsPermutation}
use Rattle.std.proofs.lemmas.Bool.{cases_Bool, and_parts, and_from, leb-true, leb-false, le-leb, lt-ltb, cond-true, cond-false}
use Rattle.std.proofs.lemmas.Bool.Decides.{nat_tests}
use Rattle.patterns.specs.CharSet.{is_within, has, is_range, are_ranges, set_of}
use Rattle.pattern_laws.specs.Laws.{every_range}
use Rattle.pattern_laws.proofs.Members.{rises-are_ranges, same_members}
use Rattle.pattern_laws.proofs.Sets.{is_range-up, is_range-below, are_ranges-from, or_group, are_ranges-set_of, has-set_of}
use Rattle.js_pattern.specs.Ranges.{are_up, joined, joined_from}

-- each range begins no earlier than the one before it
abbrev FirstsRise : ℕ → List (ℕ × ℕ) → Type 0
FirstsRise low [] = Unit {0}
FirstsRise low (r ∷ rs) = (low ≤ r.0) × FirstsRise r.0 rs

-- pairs in order of their first numbers, and then of their second
abbrev pair_cmp : ℕ × ℕ → ℕ × ℕ → Ordering
pair_cmp a b = ordering_then (nat_cmp a.0 b.0) (nat_cmp a.1 b.1)

no_less : (a b c d : ℕ) → is_lt (pair_cmp (a, c) (b, d)) ≡ false → b ≤ a
no_less a b c d h = grind (arith, nat_tests)

firsts_rise : (r : ℕ × ℕ) (rs : List (ℕ × ℕ))
    → ((k : ℕ) (d : ℕ × ℕ) → suc k < suc (length rs) → (get_or (r ∷ rs) k d).0 ≤ (get_or (r ∷ rs) (suc k) d).0)
    → FirstsRise r.0 rs
firsts_rise r [] h = tt
firsts_rise r (s ∷ ss) h = (h 0 r (omega arith), firsts_rise s ss (λ k d l. h (suc k) d (omega arith)))

pub sorted_firsts : (r : ℕ × ℕ) (rs : List (ℕ × ℕ)) → IsSorted pair_cmp (r ∷ rs) → FirstsRise r.0 rs
sorted_firsts r rs h =
    firsts_rise r rs (λ k d l.
    let at : is_lt (pair_cmp (get_or (r ∷ rs) (suc k) d) (get_or (r ∷ rs) k d)) ≡ false =
    rw add-one at (h k d (omega arith) (rw add-one l)) in
    no_less (get_or (r ∷ rs) (suc k) d).0 (get_or (r ∷ rs) k d).0 (get_or (r ∷ rs) (suc k) d).1
    (get_or (r ∷ rs) k d).1 at)

-- a property of `joined_from` by its cases
two : (P : List (ℕ × ℕ) → Type 0) (first last : ℕ) (r : ℕ × ℕ) (rs : List (ℕ × ℕ))
    → (r.0 ≤ last + 1 → P (joined_from first (max last r.1) rs))
    → (last + 1 < r.0 → P ((first, last) ∷ joined_from r.0 r.1 rs))
    → P (joined_from first last (r ∷ rs))
two P first last r rs meets apart =
    elim (cases_Bool (nat_le r.0 (last + 1))) [
      | inl e ↦ subst P (sym (cond-true (nat_le r.0 (last + 1)) _ _ e)) (meets (leb-true r.0 (last + 1) e))
      | inr e ↦ subst P (sym (cond-false (nat_le r.0 (last + 1)) _ _ e)) (apart (leb-false r.0 (last + 1) e))
    ]

is_within-grown : (a b c d n : ℕ) → a ≤ b → c ≤ d → a ≤ c → c ≤ b + 1
    → is_within (a, max b d) n ≡ is_within (a, b) n || is_within (c, d) n
is_within-grown a b c d n h k l m = grind (arith, nat_tests)

has-joined_from : (first last : ℕ) (rs : List (ℕ × ℕ)) (n : ℕ) → first ≤ last → FirstsRise first rs
    → every_range rs ≡ true
    → has (joined_from first last rs) n ≡ is_within (first, last) n || has rs n
has-joined_from first last [] n up h e = refl
has-joined_from first last (r ∷ rs) n up h e =
    let (range, rest) = and_parts (is_range r) (every_range rs) e in
    let rise : r.0 ≤ r.1 = is_range-up r range in
    two (λ l. has l n ≡ is_within (first, last) n || (is_within r n || has rs n)) first last r rs
    (λ m. has-joined_from first (max last r.1) rs n (omega arith) (lower first r.0 rs h.0 h.1) rest
    ∙ ap (λ b. b || has rs n) (is_within-grown first last r.0 r.1 n up rise h.0 m)
    ∙ or_group (is_within (first, last) n) (is_within r n) (has rs n))
    (λ _. ap (λ b. is_within (first, last) n || b) (has-joined_from r.0 r.1 rs n rise h.1 rest)) where
      lower : (low high : ℕ) (rs : List (ℕ × ℕ)) → low ≤ high → FirstsRise high rs → FirstsRise low rs
      lower low high [] l h = tt
      lower low high (r ∷ rs) l h = (omega (arith, h.0), h.1)

is_range-grown : (a b c d : ℕ) → is_range (a, b) ≡ true → is_range (c, d) ≡ true → a ≤ c → c ≤ b + 1
    → is_range (a, max b d) ≡ true
is_range-grown a b c d h k l m = grind (arith, nat_tests)

are_ranges-joined_from : (low first last : ℕ) (rs : List (ℕ × ℕ)) → low ≤ first
    → is_range (first, last) ≡ true → FirstsRise first rs
    → every_range rs ≡ true → are_ranges low (joined_from first last rs) ≡ true
are_ranges-joined_from low first last [] l is h e = are_ranges-from low (first, last) [] l is refl
are_ranges-joined_from low first last (r ∷ rs) l is h e =
    let (range, rest) = and_parts (is_range r) (every_range rs) e in
    two (λ l. are_ranges low l ≡ true) first last r rs
    (λ m. are_ranges-joined_from low first (max last r.1) rs l
    (is_range-grown first last r.0 r.1 is range h.0 m) (lower first r.0 rs h.0 h.1) rest)
    (λ m. are_ranges-from low (first, last) (joined_from r.0 r.1 rs) l is
    (are_ranges-joined_from (last + 2) r.0 r.1 rs (omega arith) range h.1 rest)) where
      lower : (low high : ℕ) (rs : List (ℕ × ℕ)) → low ≤ high → FirstsRise high rs → FirstsRise low rs
      lower low high [] l h = tt
      lower low high (r ∷ rs) l h = (omega (arith, h.0), h.1)

-- sorted ranges that are joined rise, with a number between each two that is in neither
pub are_ranges-joined : (rs : List (ℕ × ℕ)) → IsSorted pair_cmp rs → every_range rs ≡ true
    → are_ranges 0 (joined rs) ≡ true
are_ranges-joined [] s e = refl
are_ranges-joined (r ∷ rs) s e =
    let (range, rest) = and_parts (is_range r) (every_range rs) e in
    are_ranges-joined_from 0 r.0 r.1 rs (omega arith) range (sorted_firsts r rs s) rest

has-joined : (rs : List (ℕ × ℕ)) (n : ℕ) → IsSorted pair_cmp rs → every_range rs ≡ true
    → has (joined rs) n ≡ has rs n
has-joined [] n s e = refl
has-joined (r ∷ rs) n s e =
    let (range, rest) = and_parts (is_range r) (every_range rs) e in
    has-joined_from r.0 r.1 rs n (is_range-up r range) (sorted_firsts r rs s) rest

-- tests of some element, and of each, as sums that no order changes
abbrev one : Bool → ℕ
one true = 1
one false = 0

one_more : (b : Bool) (n : ℕ) → b || nat_lt 0 n ≡ nat_lt 0 (one b + n)
one_more true n = grind (arith, nat_tests)
one_more false n = grind (arith, nat_tests)

none_more : (b : Bool) (n : ℕ) → b && nat_lt n 1 ≡ nat_lt (one (not b) + n) 1
none_more true n = grind (arith, nat_tests)
none_more false n = grind (arith, nat_tests)

has-sum : (rs : List (ℕ × ℕ)) (n : ℕ) → has rs n ≡ nat_lt 0 (sum_by (λ r. one (is_within r n)) rs)
has-sum [] n = refl
has-sum (r ∷ rs) n =
    rw sum_by-cons (ap (λ b. is_within r n || b) (has-sum rs n)
    ∙ one_more (is_within r n) (sum_by (λ r. one (is_within r n)) rs))

every-sum : (rs : List (ℕ × ℕ)) → every_range rs ≡ nat_lt (sum_by (λ r. one (not (is_range r))) rs) 1
every-sum [] = refl
every-sum (r ∷ rs) =
    rw sum_by-cons (ap (λ b. is_range r && b) (every-sum rs)
    ∙ none_more (is_range r) (sum_by (λ r. one (not (is_range r))) rs))

pub are_up-every_range : (rs : List (ℕ × ℕ)) → every_range rs ≡ true → are_up rs ≡ true
are_up-every_range [] h = refl
are_up-every_range (r ∷ rs) h =
    let (range, rest) = and_parts (is_range r) (every_range rs) h in
    and_from _ _ (and_from _ _ (le-leb r.0 r.1 (is_range-up r range))
    (lt-ltb r.1 0x110000 (is_range-below r range))) (are_up-every_range rs rest)

module _ (xs ys : List (ℕ × ℕ)) (same : IsPermutation xs ys) where
  pub every_range-permuted : every_range xs ≡ true → every_range ys ≡ true
  every_range-permuted h =
      every-sum ys ∙ ap (λ n. nat_lt n 1) (sum_by-IsPermutation (λ r. one (not (is_range r))) xs ys same)
      ∙ sym (every-sum xs) ∙ h

  has-permuted : (n : ℕ) → has ys n ≡ has xs n
  has-permuted n =
      has-sum ys n ∙ ap (nat_lt 0) (sum_by-IsPermutation (λ r. one (is_within r n)) xs ys same)
      ∙ sym (has-sum xs n)

  -- whatever the order of ranges was, what is joined of them sorted is their set
  pub joined-set_of : IsSorted pair_cmp ys → every_range xs ≡ true → joined ys ≡ set_of xs
  joined-set_of s e =
      let every : every_range ys ≡ true = every_range-permuted e in
      same_members 0 (joined ys) (set_of xs) (rises-are_ranges 0 (joined ys) (are_ranges-joined ys s every))
      (rises-are_ranges 0 (set_of xs) (are_ranges-set_of xs e))
      (λ n. has-joined ys n s every ∙ has-permuted n ∙ sym (has-set_of xs n e))
