-- Values marked at their ranks, and values tried by the least common multiple.
use Rattle.std.proofs.Common.{◌≡◌, ℕ, ◌+◌, ◌-◌, ◌%◌, ◌<◌, ◌≤◌, ◌==◌, nat_le, nat_lt, Bool, true, false, cond, ◌&&◌, ◌||◌, List, [], ◌∷◌, length, get_or, replicate, take, Option, Some, None, ℤ, ◌<ℤ◌, ◌≤ℤ◌, int_lt, inl, inr, refl, ap, sym, ◌∙◌, arith, if◌then◌else◌}
use Rattle.std.specs.List.{list_all, list_any}
use Rattle.std.specs.Ordering.{int_eq}
use Rattle.std.proofs.lemmas.Int.{ints, by_lt_z}
use Rattle.std.proofs.lemmas.Bool.{eq-eqb, eqb-true, leb-true, or_cases, false≢true}
use Rattle.std.proofs.lemmas.Bool.Decides.{Decides-int_eq}
use Rattle.std.proofs.lemmas.List.Folds.{list_any_more}
use Rattle.std.proofs.lemmas.List.Sums.{sum_by-cons, sum_by-le-sum_by}
use Rattle.std.proofs.lemmas.Nat.Gcd.{dvd_of_mod-eq-zero, mod-eq-zero_of_dvd}
use Rattle.std.proofs.Math.Nat.{mod-eq_of_lt}
use Rattle.js_doc.specs.Numbers.{count_below, has, rank_of}
use Rattle.number_groups.specs.Multiples.{is_common, lcm_of}
use Rattle.js_numbers.specs.Marking.{is_at, marked_from, mark_of, AddsListed, AreListed}
use Rattle.js_numbers.proofs.CommonMultiples.{IsLcmOf-lcm_of, common_along}
use Rattle.js_numbers.proofs.SieveLaws.{get_or-replicate_false}
use Rattle.std.proofs.Math.Bool.{or-false, or_assoc}
use Rattle.list_laws.proofs.Booleans.{same_test}
use Rattle.js_numbers.proofs.Sizes.{lt_true, lt_from}

-- ---- different values have different ranks

-- 1 for true, 0 for false
abbrev flag : Bool → ℕ
flag b = cond b 1 0

below_le : (y a b : ℤ) → a ≤ℤ b → flag (int_lt y a) ≤ flag (int_lt y b)
below_le y a b l = go (int_lt y a) (int_lt y b) refl refl
  where
    go : (p q : Bool) → int_lt y a ≡ p → int_lt y b ≡ q → flag p ≤ flag q
    go false q e f = omega arith
    go true true e f = omega arith
    go true false e f =
        let less = lt_from y a e in
        absurd (false≢true (sym f ∙ lt_true y b (omega (arith, ints))))

count_cons : (n y : ℤ) (ys : List ℤ) → count_below (y ∷ ys) n ≡ flag (int_lt y n) + count_below ys n
count_cons n y ys = sum_by-cons (λ z. flag (int_lt z n)) y ys

count_below-le : (ys : List ℤ) (a b : ℤ) → a ≤ℤ b → count_below ys a ≤ count_below ys b
count_below-le ys a b l = sum_by-le-sum_by (λ z. flag (int_lt z a)) (λ z. flag (int_lt z b)) ys (λ z. below_le z a b l)

pub count_below-lt : (ys : List ℤ) (a b : ℤ) → a <ℤ b → has ys a ≡ true → count_below ys a < count_below ys b
count_below-lt [] a b l h = absurd (false≢true h)
count_below-lt (y ∷ ys) a b l h =
    let here = count_cons a y ys in
    let there = count_cons b y ys in
    elim (or_cases (int_eq y a) (has ys a) h) [
      | inl same ↦
          let e : y ≡ a = (Decides-int_eq y a).0 same in
          let rest = count_below-le ys a b (omega (arith, ints)) in
          let none : flag (int_lt y a) ≡ 0 = ap (λ z. flag (int_lt z a)) e ∙ ap flag (not_below a) in
          let one : flag (int_lt y b) ≡ 1 = ap flag (lt_true y b (omega (arith, ints, e))) in
          omega (arith, here, there, none, one, rest)
      | inr later ↦
          let rest = count_below-lt ys a b l later in
          let le = below_le y a b (omega (arith, ints)) in
          omega (arith, here, there, rest, le)
    ]
  where
    not_below : (z : ℤ) → int_lt z z ≡ false
    not_below z = grind (arith, ints)

rank_parts : (values : List ℤ) (x : ℤ) (k : ℕ) → rank_of values x ≡ Some k
    → (has values x ≡ true) × (count_below values x ≡ k)
rank_parts values x k e = go (has values x) refl e
  where
    go : (b : Bool) → has values x ≡ b → (if b then Some (count_below values x) else None) ≡ Some k
        → (has values x ≡ true) × (count_below values x ≡ k)
    go true h f = (h, cc)
    go false h f = let wrong : None ≡ Some k = f in cc

rank_same : (values : List ℤ) (x y : ℤ) (k : ℕ) → rank_of values x ≡ Some k → rank_of values y ≡ Some k → x ≡ y
rank_same values x y k e f =
    let (h, c) = rank_parts values x k e in
    let (i, d) = rank_parts values y k f in
    by_lt_z x y (λ less. absurd (omega (arith, c, d, count_below-lt values x y less h)))
    (λ le. by_lt_z y x (λ less. absurd (omega (arith, c, d, count_below-lt values y x less i)))
    (λ ge. let same : x ≡ y = omega (arith, ints, le, ge) in same))

-- ---- marks at ranks

mark_parts : (limit start : ℕ) (r : Option ℕ) (k : ℕ) → marked_from limit start r ≡ Some k → r ≡ Some (start + k)
mark_parts limit start None k e = let wrong : None ≡ Some k = e in cc
mark_parts limit start (Some j) k e = go (nat_le start j) (nat_lt (j - start) limit) refl e
  where
    go : (a b : Bool) → nat_le start j ≡ a → (if a && b then Some (j - start) else None) ≡ Some k
        → Some j ≡ Some (start + k)
    go true true h f =
        let same : j - start ≡ k = cc in
        ap Some (omega (arith, same, leb-true start j h))
    go true false h f = let wrong : None ≡ Some k = f in cc
    go false b h f = let wrong : None ≡ Some k = f in cc

pub mark_member : (limit start : ℕ) (values : List ℤ) (x : ℤ) (k : ℕ) → mark_of limit start values x ≡ Some k
    → has values x ≡ true
mark_member limit start values x k e =
    (rank_parts values x (start + k) (mark_parts limit start (rank_of values x) k e)).0

is_at_from : (r : Option ℕ) (k : ℕ) → is_at r k ≡ true → r ≡ Some k
is_at_from None k h = absurd (false≢true h)
is_at_from (Some j) k h = ap Some (eqb-true j k h)

-- the mark of one value is that of another one exactly where they are equal
pub is_at-mark_of : (limit start : ℕ) (values : List ℤ) (x y : ℤ) (k : ℕ) → mark_of limit start values y ≡ Some k
    → is_at (mark_of limit start values x) k ≡ int_eq x y
is_at-mark_of limit start values x y k e = same_test (is_at (mark_of limit start values x) k) (int_eq x y)
    (λ h.
    let f = mark_parts limit start (rank_of values x) k (is_at_from (mark_of limit start values x) k h) in
    (Decides-int_eq x y).1 (rank_same values x y (start + k) f (mark_parts limit start (rank_of values y) k e)))
    (λ h.
    let same : x ≡ y = (Decides-int_eq x y).0 h in
    ap (λ z. is_at (mark_of limit start values z) k) same ∙ ap (λ r. is_at r k) e ∙ eq-eqb k k refl)

pub AddsListed-none : (limit start : ℕ) (values : List ℤ) (marks : List Bool)
    → AddsListed limit start values (λ y. false) marks marks
AddsListed-none limit start values marks = λ y k e. sym (or-false (get_or marks k false))

-- one element more of a list whose elements give tests
pub AddsListed-more : {X : Type 0} (limit start : ℕ) (values : List ℤ) (p : X → ℤ → Bool) (xs : List X) (i : ℕ)
    (x d : X) (old mid new : List Bool)
    → i < length xs → x ≡ get_or xs i d
    → AddsListed limit start values (λ y. list_any (λ z. p z y) (take i xs)) old mid
    → AddsListed limit start values (p x) mid new
    → AddsListed limit start values (λ y. list_any (λ z. p z y) (take (i + 1) xs)) old new
AddsListed-more limit start values p xs i x d old mid new within is before more = λ y k e.
    let o = get_or old k false in
    let any = list_any (λ z. p z y) (take i xs) in
    more y k e
    ∙ ap (λ t. t || p x y) (before y k e)
    ∙ or_assoc o any (p x y)
    ∙ ap (λ t. o || t) (ap (λ z. any || p z y) is ∙ sym (list_any_more (λ z. p z y) xs i d within))

-- of the values, those that a set has
shared_any : (values set : List ℤ) (y : ℤ)
    → list_any (λ x. int_eq x y && has set x) values ≡ (has values y && has set y)
shared_any [] set y = refl
shared_any (x ∷ xs) set y = go (int_eq x y) refl (shared_any xs set y)
  where
    take_in : (h r m : Bool) → r ≡ (m && h) → (h || r) ≡ h
    take_in true r m e = refl
    take_in false r true e = e
    take_in false r false e = e

    go : (b : Bool) → int_eq x y ≡ b
        → list_any (λ z. int_eq z y && has set z) xs ≡ (has xs y && has set y)
        → (int_eq x y && has set x || list_any (λ z. int_eq z y && has set z) xs)
        ≡ ((int_eq x y || has xs y) && has set y)
    go true e left =
        let same : has set x ≡ has set y = ap (has set) ((Decides-int_eq x y).0 e) in
        let rest = list_any (λ z. int_eq z y && has set z) xs in
        ap (λ t. t && has set x || rest) e ∙ ap (λ t. t || rest) same
        ∙ take_in (has set y) rest (has xs y) left
        ∙ ap (λ t. (t || has xs y) && has set y) (sym e)
    go false e left =
        ap (λ t. t && has set x || list_any (λ z. int_eq z y && has set z) xs) e
        ∙ left
        ∙ ap (λ t. (t || has xs y) && has set y) (sym e)

pub AddsListed-shared : (limit start : ℕ) (values set : List ℤ) (old new : List Bool)
    → AddsListed limit start values (λ y. list_any (λ x. int_eq x y && has set x) values) old new
    → AddsListed limit start values (has set) old new
AddsListed-shared limit start values set old new h = λ y k e.
    h y k e
    ∙ ap (λ t. get_or old k false || t)
    (shared_any values set y ∙ ap (λ t. t && has set y) (mark_member limit start values y k e))

pub AreListed-from_none : (limit start n : ℕ) (values : List ℤ) (test : ℤ → Bool) (new : List Bool)
    → AddsListed limit start values test (replicate n false) new → AreListed limit start values test new
AreListed-from_none limit start n values test new h = λ y k e.
    h y k e ∙ ap (λ b. b || test y) (get_or-replicate_false n k)

-- ---- the least common multiple in place of all divisors

pub common_by_lcm : (ms : List ℕ) (n : ℕ) → list_all (λ m. nat_lt 0 m) ms ≡ true → (n % lcm_of ms == 0) ≡ is_common ms n
common_by_lcm ms n p =
    let l = IsLcmOf-lcm_of ms p in
    same_test (n % lcm_of ms == 0) (is_common ms n)
    (λ h. common_along ms (lcm_of ms) n (dvd_of_mod-eq-zero (lcm_of ms) (eqb-true _ _ h)) l.common)
    (λ h. eq-eqb _ _ (mod-eq-zero_of_dvd (lcm_of ms) (l.least n h)))

-- below the least common multiple there is 0 alone
pub common_below_lcm : (ms : List ℕ) (n : ℕ) → list_all (λ m. nat_lt 0 m) ms ≡ true → n < lcm_of ms
    → (n == 0) ≡ is_common ms n
common_below_lcm ms n p l = ap (λ z. z == 0) (sym (mod-eq_of_lt l)) ∙ common_by_lcm ms n p
