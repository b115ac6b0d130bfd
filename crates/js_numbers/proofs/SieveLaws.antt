-- The steps of a divisor among the multiples of a number, and the candidates that are at them.
use Rattle.std.proofs.Common.{◌≡◌, ◌≢◌, ℕ, zero, suc, ◌+◌, ◌-◌, ◌*◌, ◌/◌, ◌%◌, ◌<◌, ◌≤◌, ◌==◌, nat_lt, Bool, true, false, ◌&&◌, ◌||◌, List, length, get_or, replicate, set, take, Some, ◌^◌, ℤ, pos, negsuc, neg_ℤ, ◌+ℤ◌, unsigned_abs, inl, inr, refl, ap, sym, ◌∙◌, subst, arith, if◌then◌else◌}
use Rattle.std.specs.List.{list_any}
use Rattle.std.specs.Int.{IsGcd, int_div_euclid, int_rem_euclid}
use Rattle.std.proofs.lemmas.Int.{ints}
use Rattle.std.proofs.lemmas.Bool.{cases_lt, eq-eqb, eqb-true, ltb-true, lt-ltb, le-leb, leb-true, and_parts, and_from, or_cases, false≢true, or_right}
use Rattle.std.proofs.lemmas.Nat.Gcd.{dvd_trans, dvd_of_mod-eq-zero}
use Rattle.std.proofs.lemmas.List.{get_or-set_other}
use Rattle.std.proofs.lemmas.List.Folds.{list_any_more}
use Rattle.std.proofs.lemmas.Grind.{get_or-set_at}
use Rattle.std.proofs.Math.Nat.{mod-lt, mod-add-div, zero-mod, zero-div, mul-mod_left, div-mul_cancel, div-le_self, mul-dvd-mul_right, dvd_of_mul-dvd-mul_right, dvd-mul_left, mul-le-mul_right}
use Prim.Native.Nat.{◌∣◌}
use Rattle.number_groups.specs.Multiples.{is_multiple}
use Rattle.number_groups.specs.Group.{Group, is_near, is_ready}
use Rattle.number_groups.specs.Outcome.{multiple_from, alternate, candidate}
use Rattle.js_numbers.specs.Marking.{AddsMarks, AreStepsMarked, is_on}
use Rattle.js_numbers.proofs.CommonMultiples.{IsLcm-from_gcd}
use Rattle.js_numbers.proofs.PlaceLaws.{divides, is_multiple_from, divides_multiple_from, some_multiple_from, are_candidates}
use Rattle.js_numbers.proofs.Sizes.{abs-neg, ready_parts}
use Rattle.list_laws.proofs.Booleans.{same_test}
use Rattle.std.proofs.Math.Bool.{or_assoc, or-false}

-- ---- the step of a divisor

-- among the multiples of m, those that b divides
pub strikes_steps : (b m g : ℕ) (x : ℤ) → 0 < b → IsGcd b m g → is_multiple m x ≡ true
    → is_multiple b x ≡ is_multiple (b / g * m) x
strikes_steps b m g x p h e =
    let l = IsLcm-from_gcd b m g p h in
    same_test (is_multiple b x) (is_multiple (b / g * m) x)
    (λ d. is_multiple_from (b / g * m) x (l.least (unsigned_abs x) (divides b x d) (divides m x e)))
    (λ d. is_multiple_from b x (dvd_trans b l.first (divides (b / g * m) x d)))

pub step_positive : (b m g : ℕ) → 0 < b → IsGcd b m g → 0 < b / g
step_positive b m g p h = elim (cases_lt 0 (b / g)) [
  | inl l ↦ l
  | inr l ↦
      let none : b / g ≡ 0 = omega arith in
      let e : 0 * g ≡ b = subst (λ z. z * g ≡ b) none (div-mul_cancel g h.0) in
      absurd (omega (arith, e))
]

-- ---- the numbers at steps of one size

pub is_on-step : (first step j k : ℕ) → first + j * step ≡ k → is_on first step k ≡ true
is_on-step first step j k e =
    let gap : k - first ≡ j * step = omega (arith, e) in
    and_from _ _ (le-leb first k (omega (arith, e)))
    (eq-eqb ((k - first) % step) 0 (ap (λ z. z % step) gap ∙ mul-mod_left j step))

pub is_on-parts : (first step k : ℕ) → is_on first step k ≡ true → (j : ℕ) × (first + j * step ≡ k)
is_on-parts first step k h =
    let (a, b) = and_parts _ _ h in
    let le = leb-true first k a in
    let e = div-mul_cancel step (dvd_of_mod-eq-zero step (eqb-true _ _ b)) in
    ((k - first) / step, omega (arith, le, e))

-- between a number and the next one there is none
none_between : (first step j k : ℕ) → is_on first step j ≡ true → is_on first step k ≡ true → j < k + step → j ≤ k
none_between first step j k h i l =
    let (a, e) = is_on-parts first step j h in
    let (b, f) = is_on-parts first step k i in
    elim (cases_lt b a) [
      | inl more ↦
          let far : (b + 1) * step ≤ a * step = mul-le-mul_right step (omega arith) in
          omega (arith, e, f, far)
      | inr less ↦
          let near : a * step ≤ b * step = mul-le-mul_right step less in
          omega (arith, e, f, near)
    ]

-- another number is passed at a step exactly where it was passed before
pub passed_more : (first step j k : ℕ) → is_on first step k ≡ true → j ≢ k
    → (is_on first step j && nat_lt j (k + step)) ≡ (is_on first step j && nat_lt j k)
passed_more first step j k h other = same_test
    (is_on first step j && nat_lt j (k + step)) (is_on first step j && nat_lt j k)
    (λ e. let (a, b) = and_parts _ _ e in
    let le = none_between first step j k a h (ltb-true j (k + step) b) in
    let lt : j < k = omega (arith, other) in
    and_from _ _ a (lt-ltb j k lt))
    (λ e. let (a, b) = and_parts _ _ e in
    let lt = ltb-true j k b in and_from _ _ a (lt-ltb j (k + step) (omega arith)))

-- the number itself is passed
pub passed_here : (first step k : ℕ) → 0 < step → is_on first step k ≡ true
    → (is_on first step k && nat_lt k (k + step)) ≡ true
passed_here first step k p h = and_from _ _ h (lt-ltb k (k + step) (omega arith))

-- ---- upwards and downwards

abbrev times : ℤ → ℕ → ℤ
times (pos c) m = pos (c * m)
times (negsuc c) m = neg_ℤ (pos (suc c * m))

-- how often m goes into the first multiple that isn't below low
abbrev pub factor : ℕ → ℤ → ℤ
factor m low = neg_ℤ (int_div_euclid (neg_ℤ low) (pos m))

times_neg : (d m : ℕ) → times (neg_ℤ (pos d)) m ≡ neg_ℤ (pos (d * m))
times_neg zero m = let none : 0 * m ≡ 0 = omega arith in rw none refl
times_neg (suc d) m = refl

first_is : (m : ℕ) (low : ℤ) → 0 < m → low +ℤ int_rem_euclid (neg_ℤ low) (pos m) ≡ times (factor m low) m
first_is m (pos zero) p =
    let q = zero-div m in let r = zero-mod m in
    let none : 0 * m ≡ 0 = omega arith in
    ap (λ z. pos (0 + z)) r ∙ sym (ap (λ z. times (neg_ℤ (pos z)) m) q ∙ ap pos none)
first_is m (pos (suc n)) p =
    let r = mod-lt n p in
    omega (arith, ints, mod-add-div n m)
first_is m (negsuc n) p =
    let e : negsuc n +ℤ pos (suc n % m) ≡ neg_ℤ (pos (suc n / m * m)) = omega (arith, ints, mod-add-div (suc n) m) in
    e ∙ sym (times_neg (suc n / m) m)

abs_down : (a b m : ℕ) → b ≤ a
    → unsigned_abs (neg_ℤ (pos (a * m)) +ℤ pos (b * m)) ≡ unsigned_abs (neg_ℤ (pos a) +ℤ pos b) * m
abs_down a b m l =
    let d = a - b in
    let e : a ≡ b + d = omega arith in
    let f : a * m ≡ b * m + d * m = ap (λ z. z * m) e ∙ omega arith in
    let left : unsigned_abs (neg_ℤ (pos (a * m)) +ℤ pos (b * m)) ≡ d * m = omega (arith, ints, f) in
    let right : unsigned_abs (neg_ℤ (pos a) +ℤ pos b) ≡ d = omega (arith, ints, e) in
    left ∙ sym (ap (λ z. z * m) right)

abs_up : (a b m : ℕ) → a ≤ b
    → unsigned_abs (neg_ℤ (pos (a * m)) +ℤ pos (b * m)) ≡ unsigned_abs (neg_ℤ (pos a) +ℤ pos b) * m
abs_up a b m l =
    let d = b - a in
    let e : b ≡ a + d = omega arith in
    let f : b * m ≡ a * m + d * m = ap (λ z. z * m) e ∙ omega arith in
    let left : unsigned_abs (neg_ℤ (pos (a * m)) +ℤ pos (b * m)) ≡ d * m = omega (arith, ints, f) in
    let right : unsigned_abs (neg_ℤ (pos a) +ℤ pos b) ≡ d = omega (arith, ints, e) in
    left ∙ sym (ap (λ z. z * m) right)

abs_times : (q : ℤ) (m k : ℕ) → unsigned_abs (times q m +ℤ pos (k * m)) ≡ unsigned_abs (q +ℤ pos k) * m
abs_times (pos c) m k = omega arith
abs_times (negsuc c) m k = elim (cases_lt k (suc c)) [
  | inl l ↦ abs_down (suc c) k m (omega arith)
  | inr l ↦ abs_up (suc c) k m l
]

abs_multiple_from : (m : ℕ) (low : ℤ) (k : ℕ) → 0 < m
    → unsigned_abs (multiple_from m low k) ≡ unsigned_abs (factor m low +ℤ pos k) * m
abs_multiple_from m low k p =
    ap (λ z. unsigned_abs (z +ℤ pos (k * m))) (first_is m low p) ∙ abs_times (factor m low) m k

-- the candidates at the steps are the multiples of m that the divisor divides
pub is_on-multiple_from : (m s k first : ℕ) (low : ℤ) → 0 < m → 0 < s
    → pos first ≡ int_rem_euclid (neg_ℤ (factor m low)) (pos s)
    → is_on first s k ≡ is_multiple (s * m) (multiple_from m low k)
is_on-multiple_from m s k first low p r f =
    let q = factor m low in
    let size = abs_multiple_from m low k p in
    same_test (is_on first s k) (is_multiple (s * m) (multiple_from m low k))
    (λ h.
    let (j, e) = is_on-parts first s k h in
    let same : multiple_from s q j ≡ q +ℤ pos k = omega (arith, ints, e, f) in
    let d : s ∣ unsigned_abs (q +ℤ pos k) = subst (λ z. s ∣ unsigned_abs z) same (divides_multiple_from s q j r) in
    is_multiple_from (s * m) (multiple_from m low k) (subst (λ z. s * m ∣ z) (sym size) (mul-dvd-mul_right s d m)))
    (λ h.
    let d : s * m ∣ unsigned_abs (q +ℤ pos k) * m =
    subst (λ z. s * m ∣ z) size (divides (s * m) (multiple_from m low k) h) in
    let (j, e) = some_multiple_from s q (q +ℤ pos k) r (dvd_of_mul-dvd-mul_right s p d) (omega (arith, ints)) in
    is_on-step first s j k (omega (arith, ints, e, f)))

-- ---- by size

abs_alternate : (m k : ℕ) → unsigned_abs (alternate m k) ≡ (k + 1) / 2 * m
abs_alternate m k = go (k % 2 == 0) refl
  where
    go : (b : Bool) → (k % 2 == 0) ≡ b
        → unsigned_abs (if b then neg_ℤ (pos (k / 2 * m)) else pos ((k / 2 + 1) * m)) ≡ (k + 1) / 2 * m
    go true e =
        let even = eqb-true _ _ e in
        let half : k / 2 ≡ (k + 1) / 2 = omega (arith, even) in
        abs-neg (pos (k / 2 * m)) ∙ ap (λ z. z * m) half
    go false e = elim (cases_lt (k % 2) 1) [
      | inl l ↦ absurd (false≢true (sym e ∙ eq-eqb (k % 2) 0 (omega arith)))
      | inr l ↦ let half : k / 2 + 1 ≡ (k + 1) / 2 = omega (arith, l) in ap (λ z. z * m) half
    ]

-- the candidates at the steps are the multiples of m that the divisor divides
pub is_on-alternate : (m s k : ℕ) → 0 < m → 0 < s
    → (is_on 0 (2 * s) k || is_on (2 * s - 1) (2 * s) k) ≡ is_multiple (s * m) (alternate m k)
is_on-alternate m s k p r = same_test
    (is_on 0 (2 * s) k || is_on (2 * s - 1) (2 * s) k) (is_multiple (s * m) (alternate m k))
    (λ h. elim (or_cases (is_on 0 (2 * s) k) (is_on (2 * s - 1) (2 * s) k) h) [
      | inl even ↦
          let (j, e) = is_on-parts 0 (2 * s) k even in
          divided j (omega (arith, e))
      | inr odd ↦
          let (j, e) = is_on-parts (2 * s - 1) (2 * s) k odd in
          divided (j + 1) (omega (arith, e))
    ])
    (λ h.
    let d : s * m ∣ (k + 1) / 2 * m = subst (λ z. s * m ∣ z) (abs_alternate m k) (divides (s * m) (alternate m k) h) in
    let e = div-mul_cancel s (dvd_of_mul-dvd-mul_right s p d) in
    found ((k + 1) / 2 / s) e)
  where
    divided : (j : ℕ) → j * s ≡ (k + 1) / 2 → is_multiple (s * m) (alternate m k) ≡ true
    divided j e = is_multiple_from (s * m) (alternate m k)
        (subst (λ z. s * m ∣ z) (sym (abs_alternate m k))
        (mul-dvd-mul_right s (subst (λ z. s ∣ z) e (dvd-mul_left s j)) m))

    odd_found : (j : ℕ) → j * s ≡ (k + 1) / 2 → k + 1 ≡ 2 * ((k + 1) / 2) → is_on (2 * s - 1) (2 * s) k ≡ true
    odd_found zero e f = absurd (omega (arith, e))
    odd_found (suc j) e f = is_on-step (2 * s - 1) (2 * s) j k (omega (arith, e))

    found : (j : ℕ) → j * s ≡ (k + 1) / 2 → (is_on 0 (2 * s) k || is_on (2 * s - 1) (2 * s) k) ≡ true
    found j e = elim (cases_lt (k % 2) 1) [
      | inl l ↦ ap (λ b. b || is_on (2 * s - 1) (2 * s) k) (is_on-step 0 (2 * s) j k (omega (arith, e, l)))
      | inr l ↦ or_right (is_on 0 (2 * s) k) _ (odd_found j e (omega (arith, l)))
    ]

-- ---- marks, one more at a time

or_true : (a b : Bool) → b ≡ true → true ≡ (a || b)
or_true true b h = refl
or_true false b h = sym h

pub mark_more : (marks old : List Bool) (first step k j : ℕ) → 0 < step → is_on first step k ≡ true → k < length marks
    → get_or marks j false ≡ (get_or old j false || (is_on first step j && nat_lt j k))
    → get_or (set marks k true) j false ≡ (get_or old j false || (is_on first step j && nat_lt j (k + step)))
mark_more marks old first step k j p h l e = elim (cases_lt j k) [
  | inl less ↦ other (omega arith)
  | inr more ↦ elim (cases_lt k j) [
    | inl less ↦ other (omega arith)
    | inr same ↦
        let here : j ≡ k = omega arith in
        get_or-set_at marks k j true false here l
        ∙ or_true (get_or old j false) _
        (subst (λ i. (is_on first step i && nat_lt i (k + step)) ≡ true) (sym here) (passed_here first step k p h))
  ]
]
  where
    other : j ≢ k
        → get_or (set marks k true) j false ≡ (get_or old j false || (is_on first step j && nat_lt j (k + step)))
    other n =
        get_or-set_other marks k j true false n ∙ e
        ∙ ap (λ b. get_or old j false || b) (sym (passed_more first step j k h n))

pub is_on-next : (first step k : ℕ) → is_on first step k ≡ true → is_on first step (k + step) ≡ true
is_on-next first step k h =
    let (j, e) = is_on-parts first step k h in
    is_on-step first step (j + 1) (k + step) (omega (arith, e))

-- ---- the marks of several divisors

pub get_or-replicate_false : (n s : ℕ) → get_or (replicate n false) s false ≡ false
get_or-replicate_false zero s = refl
get_or-replicate_false (suc n) zero = refl
get_or-replicate_false (suc n) (suc s) = get_or-replicate_false n s

pub AreStepsMarked-none : (limit m n : ℕ) (g : Group) (marks : List Bool)
    → AreStepsMarked limit m g (replicate n false) marks
AreStepsMarked-none limit m n g marks = λ s h. absurd (false≢true (sym (get_or-replicate_false n s) ∙ h))

pub AddsMarks-none : (limit m : ℕ) (g : Group) (marks : List Bool)
    → AddsMarks limit (candidate m g) (λ x. false) marks marks
AddsMarks-none limit m g marks = λ k l small. sym (or-false (get_or marks k false))

-- one divisor more, of which the candidates at its steps are marked
pub AddsMarks-divisor : (limit m : ℕ) (g : Group) (bs : List ℕ) (i b step : ℕ) (old mid new : List Bool) → 0 < m
    → i < length bs → b ≡ get_or bs i 0
    → ((x : ℤ) → is_multiple m x ≡ true → is_multiple b x ≡ is_multiple (step * m) x)
    → AddsMarks limit (candidate m g) (λ x. list_any (λ d. is_multiple d x) (take i bs)) old mid
    → AddsMarks limit (candidate m g) (is_multiple (step * m)) mid new
    → AddsMarks limit (candidate m g) (λ x. list_any (λ d. is_multiple d x) (take (i + 1) bs)) old new
AddsMarks-divisor limit m g bs i b step old mid new p within is strikes before more = λ k l small.
    let x = candidate m g k in
    let o = get_or old k false in
    let any = list_any (λ d. is_multiple d x) (take i bs) in
    let here : is_multiple (step * m) x ≡ is_multiple (get_or bs i 0) x =
    sym (strikes x ((are_candidates m g p).multiple k)) ∙ ap (λ d. is_multiple d x) is in
    more k l small
    ∙ ap (λ t. t || is_multiple (step * m) x) (before k l small)
    ∙ or_assoc o any (is_multiple (step * m) x)
    ∙ ap (λ t. o || t) (ap (λ t. any || t) here ∙ sym (list_any_more (λ d. is_multiple d x) bs i 0 within))

-- ---- sizes

quotient_small : (z : ℤ) (m : ℕ) → unsigned_abs (int_div_euclid z (pos m)) ≤ unsigned_abs z
quotient_small (pos a) m = div-le_self a m
quotient_small (negsuc a) m = let l = div-le_self a m in omega arith

pub factor_small : (m : ℕ) (low : ℤ) → unsigned_abs (factor m low) ≤ unsigned_abs low
factor_small m low =
    let q = int_div_euclid (neg_ℤ low) (pos m) in
    let l = quotient_small (neg_ℤ low) m in
    omega (arith, abs-neg q, abs-neg low)

pub high_near : (g : Group) (high : ℤ) → is_ready g ≡ true → g.high ≡ Some high → unsigned_abs high ≤ 2 ^ 64
high_near g high r e = leb-true _ _ (subst (λ h. is_near h ≡ true) e (ready_parts g r).1)
