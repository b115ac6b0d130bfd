-- The candidates are the multiples of a number within the bounds.
use Rattle.std.proofs.Common.{◌≡◌, ℕ, zero, suc, ◌+◌, ◌-◌, ◌*◌, ◌/◌, ◌%◌, ◌<◌, ◌≤◌, ◌==◌, inl, inr, Bool, true, false, Option, Some, None, ℤ, pos, negsuc, neg_ℤ, ◌+ℤ◌, ◌≤ℤ◌, ◌<ℤ◌, unsigned_abs, refl, ap, sym, ◌∙◌, subst, arith, if◌then◌else◌}
use Rattle.std.proofs.lemmas.Int.{ints, by_lt_z}
use Rattle.std.proofs.lemmas.Bool.{cases_lt, eq-eqb, ne_eqb, eqb-true}
use Rattle.std.proofs.lemmas.Nat.Gcd.{dvd-zero, dvd_refl, dvd_of_mod-eq-zero, mod-eq-zero_of_dvd, le_of_dvd}
use Rattle.std.proofs.Math.Nat.{dvd-add, dvd-sub, dvd-mul_left, dvd-mul_right, mod-lt, mod-add-div, div-mul_cancel, zero-mod, mod-le}
use Rattle.std.specs.Int.{int_rem_euclid}
use Prim.Native.Nat.{◌∣◌}
use Rattle.number_groups.specs.Multiples.{is_multiple}
use Rattle.number_groups.specs.Group.{Group, is_above, is_below}
use Rattle.number_groups.specs.Outcome.{multiple_from, alternate, place}
use Rattle.number_groups.specs.Correct.{AreCandidates}
use Rattle.js_numbers.proofs.Sizes.{abs-neg, le_true, le_from, above_low}

pub divides : (m : ℕ) (x : ℤ) → is_multiple m x ≡ true → m ∣ unsigned_abs x
divides m x h = dvd_of_mod-eq-zero m (eqb-true _ _ h)

pub is_multiple_from : (m : ℕ) (x : ℤ) → m ∣ unsigned_abs x → is_multiple m x ≡ true
is_multiple_from m x d = eq-eqb _ _ (mod-eq-zero_of_dvd m d)

-- a multiple plus a multiple
divides_sum : (m : ℕ) (a : ℤ) (d : ℕ) → m ∣ unsigned_abs a → m ∣ d → m ∣ unsigned_abs (a +ℤ pos d)
divides_sum m (pos n) d h i = dvd-add m h i
divides_sum m (negsuc n) d h i = elim (cases_lt d (suc n)) [
  | inl l ↦ let e : unsigned_abs (negsuc n +ℤ pos d) ≡ suc n - d =
      omega (arith, ints) in subst (λ z. m ∣ z) (sym e) (dvd-sub m h i)
  | inr l ↦ let e : unsigned_abs (negsuc n +ℤ pos d) ≡ d - suc n =
      omega (arith, ints) in subst (λ z. m ∣ z) (sym e) (dvd-sub m i h)
]

-- from a multiple up to another one is a multiple
difference : (m : ℕ) (a x : ℤ) → m ∣ unsigned_abs a → m ∣ unsigned_abs x → a ≤ℤ x → (d : ℕ) × (m ∣ d)
    × (x ≡ a +ℤ pos d)
difference m (pos n) (pos y) h i l = (y - n, dvd-sub m i h, omega (arith, ints))
difference m (negsuc n) (pos y) h i l = (suc n + y, dvd-add m h i, omega (arith, ints))
difference m (negsuc n) (negsuc y) h i l = (suc n - suc y, dvd-sub m h i, omega (arith, ints))
difference m (pos n) (negsuc y) h i l = absurd (omega (arith, ints))

-- the first multiple that isn't below a bound is a multiple, and none lies between
first_divides : (m : ℕ) (low : ℤ) → 0 < m → m ∣ unsigned_abs (low +ℤ int_rem_euclid (neg_ℤ low) (pos m))
first_divides m (pos zero) p =
    let e : 0 + 0 % m ≡ 0 = omega (arith, zero-mod m) in subst (λ z. m ∣ z) (sym e) (dvd-zero m)
first_divides m (pos (suc n)) p =
    let r = mod-lt n p in
    let e : m * (n / m) + m ≡ suc n + (m - 1 - n % m) = omega (arith, mod-add-div n m) in
    subst (λ z. m ∣ z) e (dvd-add m (dvd-mul_right m (n / m)) (dvd_refl m))
first_divides m (negsuc n) p =
    let r = mod-le (suc n) m in
    let e : unsigned_abs (negsuc n +ℤ pos (suc n % m)) ≡ m * (suc n / m) =
    omega (arith, ints, mod-add-div (suc n) m) in
    subst (λ z. m ∣ z) (sym e) (dvd-mul_right m (suc n / m))

gap_small : (m : ℕ) (z : ℤ) → 0 < m → int_rem_euclid z (pos m) <ℤ pos m
gap_small m (pos n) p = let r = mod-lt n p in omega (arith, ints)
gap_small m (negsuc n) p = omega (arith, ints)

none_between : (m : ℕ) (low a x gap : ℤ) → m ∣ unsigned_abs a → m ∣ unsigned_abs x → low ≤ℤ x → a ≡ low +ℤ gap
    → gap <ℤ pos m
    → x <ℤ a → ⊥
none_between m low a x gap h i l e small less =
    let (d, j, f) = difference m x a i h (omega (arith, ints)) in
    let large : m ≤ d = le_of_dvd (omega (arith, ints, f)) j in
    omega (arith, ints, f, e)

first_least : (m : ℕ) (low x : ℤ) → 0 < m → m ∣ unsigned_abs x → low ≤ℤ x
    → (low +ℤ int_rem_euclid (neg_ℤ low) (pos m)) ≤ℤ x
first_least m low x p h l =
    let a : ℤ = low +ℤ int_rem_euclid (neg_ℤ low) (pos m) in
    by_lt_z x a
    (λ less. absurd
    (none_between m low a x (int_rem_euclid (neg_ℤ low) (pos m))
    (first_divides m low p) h l refl (gap_small m (neg_ℤ low) p) less))
    (λ le. le)

pub divides_multiple_from : (m : ℕ) (low : ℤ) (k : ℕ) → 0 < m → m ∣ unsigned_abs (multiple_from m low k)
divides_multiple_from m low k p = divides_sum m (low +ℤ int_rem_euclid (neg_ℤ low) (pos m)) (k * m)
    (first_divides m low p) (dvd-mul_left m k)

pub some_multiple_from : (m : ℕ) (low x : ℤ) → 0 < m → m ∣ unsigned_abs x → low ≤ℤ x → (k : ℕ)
    × (multiple_from m low k ≡ x)
some_multiple_from m low x p h l =
    let a : ℤ = low +ℤ int_rem_euclid (neg_ℤ low) (pos m) in
    let (d, i, e) = difference m a x (first_divides m low p) h (first_least m low x p h l) in
    (d / m, ap (λ n. a +ℤ pos n) (div-mul_cancel m i) ∙ sym e)

-- ---- multiples without bounds

divides_alternate : (m k : ℕ) → m ∣ unsigned_abs (alternate m k)
divides_alternate m k = go (k % 2 == 0)
  where
    go : (b : Bool) → m ∣ unsigned_abs (if b then neg_ℤ (pos (k / 2 * m)) else pos ((k / 2 + 1) * m))
    go true = subst (λ z. m ∣ z) (sym (abs-neg (pos (k / 2 * m)))) (dvd-mul_left m (k / 2))
    go false = dvd-mul_left m (k / 2 + 1)

pub alternate_even : (m r : ℕ) → alternate m (2 * r) ≡ neg_ℤ (pos (r * m))
alternate_even m r =
    ap (λ t. if t then neg_ℤ (pos (2 * r / 2 * m)) else pos ((2 * r / 2 + 1) * m))
    (eq-eqb (2 * r % 2) 0 (omega arith))
    ∙ (let half : 2 * r / 2 ≡ r = omega arith in ap (λ q. neg_ℤ (pos (q * m))) half)

pub alternate_odd : (m r : ℕ) → alternate m (2 * r + 1) ≡ pos ((r + 1) * m)
alternate_odd m r =
    ap (λ t. if t then neg_ℤ (pos ((2 * r + 1) / 2 * m)) else pos (((2 * r + 1) / 2 + 1) * m))
    (ne_eqb ((2 * r + 1) % 2) 0 (λ e. omega arith))
    ∙ (let half : (2 * r + 1) / 2 ≡ r = omega arith in ap (λ q. pos ((q + 1) * m)) half)

not_negative : (m n q : ℕ) → q * m ≡ n → (k : ℕ) × (alternate m k ≡ pos n)
not_negative m n zero e =
    (2 * 0, alternate_even m 0 ∙ (let none : neg_ℤ (pos (0 * m)) ≡ pos n = omega (arith, ints, e) in none))
not_negative m n (suc r) e =
    (2 * r + 1, alternate_odd m r ∙ (let same : (r + 1) * m ≡ n = omega (arith, e) in ap pos same))

some_alternate : (m : ℕ) (x : ℤ) → m ∣ unsigned_abs x → (k : ℕ) × (alternate m k ≡ x)
some_alternate m (pos n) h = not_negative m n (n / m) (div-mul_cancel m h)
some_alternate m (negsuc n) h =
    (2 * (suc n / m), alternate_even m (suc n / m) ∙ ap (λ z. neg_ℤ (pos z)) (div-mul_cancel m h))

-- ---- multiples in all three orders

pub divides_place : (m : ℕ) (low high : Option ℤ) (k : ℕ) → 0 < m → m ∣ unsigned_abs (place m low high k)
divides_place m (Some low) high k p = divides_multiple_from m low k p
divides_place m None (Some high) k p =
    subst (λ z. m ∣ z) (sym (abs-neg (multiple_from m (neg_ℤ high) k)))
    (divides_multiple_from m (neg_ℤ high) k p)
divides_place m None None k p = divides_alternate m k

pub place_above : (m : ℕ) (low high : Option ℤ) (k : ℕ) → is_above low (place m low high k) ≡ true
place_above m (Some low) high k = le_true low (multiple_from m low k) (above_low m low k)
place_above m None (Some high) k = refl
place_above m None None k = refl

-- only upwards is there a last candidate
pub place_below : (m : ℕ) (high : Option ℤ) (k : ℕ) → is_below high (place m None high k) ≡ true
place_below m (Some high) k =
    let a = above_low m (neg_ℤ high) k in le_true (neg_ℤ (multiple_from m (neg_ℤ high) k)) high
    (omega (arith, ints, a))
place_below m None k = refl

pub some_place : (m : ℕ) (low high : Option ℤ) (x : ℤ) → 0 < m → m ∣ unsigned_abs x → is_above low x ≡ true
    → is_below high x ≡ true
    → (k : ℕ) × (place m low high k ≡ x)
some_place m (Some low) high x p h a b = some_multiple_from m low x p h (le_from low x a)
some_place m None (Some high) x p h a b =
    let l : x ≤ℤ high = le_from x high b in
    let (k, e) = some_multiple_from m (neg_ℤ high) (neg_ℤ x) p (subst (λ z. m ∣ z) (sym (abs-neg x)) h)
    (omega (arith, ints)) in
    (k, ap neg_ℤ e ∙ (let back : neg_ℤ (neg_ℤ x) ≡ x = omega (arith, ints) in back))
some_place m None None x p h a b = some_alternate m x h

pub are_candidates : (m : ℕ) (g : Group) → 0 < m → AreCandidates m g
are_candidates m g p = record {
  multiple = λ k. is_multiple_from m (place m g.low g.high k) (divides_place m g.low g.high k p);
  above = λ k. place_above m g.low g.high k;
  all = λ x h a b. some_place m g.low g.high x p (divides m x h) a b;
}
