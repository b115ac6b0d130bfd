-- Numbers within 2^127-1 in size.
use Rattle.std.proofs.Common.{◌≡◌, ℕ, zero, suc, ◌*◌, ◌^◌, ◌<◌, ◌≤◌, Bool, true, false, Option, Some, None, Ok, Err, ℤ, pos, negsuc, neg_ℤ, ◌+ℤ◌, ◌-ℤ◌, to_z, of_z, ◌≤ℤ◌, ◌<ℤ◌, unsigned_abs, refl, ap, sym, ◌∙◌, subst, arith, SomeIff, FitsSigned, inl, inr, int_le, if◌then◌else◌, int_lt}
use Rattle.std.proofs.lemmas.Int.{ints}
use Rattle.std.proofs.lemmas.Bool.{le-leb, lt-leb, leb-true, cases_lt, and_parts}
use Rattle.std.specs.Int.{w128, int_rem_euclid}
use Rattle.number_groups.specs.Outcome.{sized, multiple_from, alternate, place, in_reach, reached, after_last}
use Rattle.number_groups.specs.Group.{Group, is_below, is_near, is_ready}
use Rattle.number_groups.specs.Cases.{Empty, LimitMultiples}

pub sized-small : (x : ℤ) → unsigned_abs x < 2 ^ 127 → sized x ≡ Some x
sized-small x l = rw (lt-leb (2 ^ 127) (unsigned_abs x) l) refl

pub sized-large : (x : ℤ) → 2 ^ 127 ≤ unsigned_abs x → sized x ≡ None
sized-large x l = rw (le-leb (2 ^ 127) (unsigned_abs x) l) refl

-- what a checked step answers, where the result can't be too low
pub sized_from_checked : (r : Option ℤ) (x : ℤ) → neg_ℤ (pos (2 ^ 127)) <ℤ x → SomeIff r (FitsSigned w128 x) x
    → r ≡ sized x
sized_from_checked None (pos n) b h = elim (cases_lt n (2 ^ 127)) [
  | inl l ↦ absurd (h (record { sfits = l }))
  | inr l ↦ sym (sized-large (pos n) l)
]
sized_from_checked None (negsuc n) b h = let l : n < 2 ^ 127 =
    omega (arith, ints, b) in absurd (h (record { sfits = l }))
sized_from_checked (Some y) (pos n) b h = ap Some h.1 ∙ sym (sized-small (pos n) h.0.sfits)
sized_from_checked (Some y) (negsuc n) b h = ap Some h.1
    ∙ sym (sized-small (negsuc n) (omega (arith, ints, b)))

pub int_rem_euclid-nonnegative : (z d : ℤ) → pos 0 ≤ℤ int_rem_euclid z d
int_rem_euclid-nonnegative (pos n) d = omega (arith, ints)
int_rem_euclid-nonnegative (negsuc n) d = omega (arith, ints)

same_rem : (x d y e : ℤ) → x ≡ y → d ≡ e → int_rem_euclid x d ≡ int_rem_euclid y e
same_rem x d y e p q = ap (λ z. int_rem_euclid z d) p ∙ ap (λ z. int_rem_euclid y z) q

-- what `rem_euclid` answers at the casts of the code
pub gap_is : (r low : ℤ) (m : ℕ) → unsigned_abs low ≤ 2 ^ 64 → m < 2 ^ 127
    → r ≡ int_rem_euclid (to_z w128 (of_z w128 (pos 0 -ℤ to_z w128 (of_z w128 low)))) (to_z w128 m)
    → r ≡ int_rem_euclid (neg_ℤ low) (pos m)
gap_is r low m near l e =
    let x : to_z w128 (of_z w128 (pos 0 -ℤ to_z w128 (of_z w128 low))) ≡ neg_ℤ low = omega (arith, ints) in
    let d : to_z w128 m ≡ pos m = omega (arith, ints) in
    e ∙ same_rem _ _ _ _ x d

pub multiple_reached : (r : Option ℤ) (x low gap : ℤ) (k m past : ℕ) → unsigned_abs low ≤ 2 ^ 64
    → gap ≡ int_rem_euclid (neg_ℤ low) (pos m) → x ≡ low +ℤ gap → past ≡ k * m
    → SomeIff r (FitsSigned w128 (x +ℤ pos past)) (x +ℤ pos past) → r ≡ sized (multiple_from m low k)
multiple_reached r x low gap k m past near g e p h =
    let same : x +ℤ pos past ≡ multiple_from m low k = ap (λ z. z +ℤ pos past) (e ∙ ap (λ z. low +ℤ z) g)
    ∙ ap (λ n. low +ℤ int_rem_euclid (neg_ℤ low) (pos m) +ℤ pos n) p in
    let n : pos 0 ≤ℤ int_rem_euclid (neg_ℤ low) (pos m) = int_rem_euclid-nonnegative (neg_ℤ low) (pos m) in
    sized_from_checked r (multiple_from m low k) (omega (arith, ints))
    (subst (λ z. SomeIff r (FitsSigned w128 z) z) same h)

pub sized-Some : (x y : ℤ) → sized x ≡ Some y → (x ≡ y) × (unsigned_abs x < 2 ^ 127)
sized-Some x y e = elim (cases_lt (unsigned_abs x) (2 ^ 127)) [
  | inl l ↦ (let f : Some x ≡ Some y = sym (sized-small x l) ∙ e in cc, l)
  | inr l ↦ let f : None ≡ Some y = sym (sized-large x l) ∙ e in cc
]

pub sized-None : (x : ℤ) → sized x ≡ None → 2 ^ 127 ≤ unsigned_abs x
sized-None x e = elim (cases_lt (unsigned_abs x) (2 ^ 127)) [
  | inl l ↦ let f : Some x ≡ None = sym (sized-small x l) ∙ e in cc
  | inr l ↦ l
]

pub abs-neg : (x : ℤ) → unsigned_abs (neg_ℤ x) ≡ unsigned_abs x
abs-neg (pos zero) = refl
abs-neg (pos (suc n)) = refl
abs-neg (negsuc n) = refl

pub sized-neg : (x y : ℤ) → sized x ≡ Some y → sized (neg_ℤ x) ≡ Some (neg_ℤ y)
sized-neg x y e =
    let f = sized-Some x y e in
    sized-small (neg_ℤ x) (omega (arith, abs-neg x, f.1)) ∙ ap (λ z. Some (neg_ℤ z)) f.0

-- ---- candidates

-- the code finds a multiple downwards as the opposite of one upwards
pub opposite_is : (y x high : ℤ) (m k : ℕ) → x ≡ neg_ℤ high → sized (multiple_from m x k) ≡ Some y
    → sized (neg_ℤ (multiple_from m (neg_ℤ high) k)) ≡ Some (neg_ℤ y)
opposite_is y x high m k e h = sized-neg (multiple_from m (neg_ℤ high) k) y
    (subst (λ z. sized (multiple_from m z k) ≡ Some y) e h)

in_reach_sized : (b : Bool) (p : ℤ) → unsigned_abs p < 2 ^ 127
    → in_reach b p ≡ (if b then Ok p else Err Empty)
in_reach_sized true p l = rw (lt-leb (2 ^ 127) (unsigned_abs p) l) refl
in_reach_sized false p l = refl

-- a candidate of fitting size is tried where it isn't above the upper bound
pub in_reach-Some : (high : Option ℤ) (p x : ℤ) (b : Bool) → sized p ≡ Some x → is_below high x ≡ b
    → in_reach (is_below high p) p ≡ (if b then Ok x else Err Empty)
in_reach-Some high p x b e h =
    let (same, l) = sized-Some p x e in
    in_reach_sized (is_below high p) p l
    ∙ ap (λ z. if is_below high z then Ok z else Err Empty) same
    ∙ ap (λ t. if t then Ok x else Err Empty) h

pub reached-Some : (m : ℕ) (g : Group) (k : ℕ) (x : ℤ) (b : Bool) → sized (place m g.low g.high k) ≡ Some x
    → is_below g.high x ≡ b
    → reached m g k ≡ (if b then Ok x else Err Empty)
unfolding reached
reached-Some m g k x b e h = in_reach-Some g.high (place m g.low g.high k) x b e h

pub above_low : (m : ℕ) (low : ℤ) (k : ℕ) → low ≤ℤ multiple_from m low k
above_low m low k = omega (arith, ints, int_rem_euclid-nonnegative (neg_ℤ low) (pos m))

pub le_true : (a b : ℤ) → a ≤ℤ b → int_le a b ≡ true
le_true a b h = grind (arith, ints)

pub le_from : (a b : ℤ) → int_le a b ≡ true → a ≤ℤ b
le_from a b h = grind (arith, ints)

pub le_false : (a b : ℤ) → b <ℤ a → int_le a b ≡ false
le_false a b h = grind (arith, ints)

in_reach_over : (b : Bool) (p : ℤ) → 2 ^ 127 ≤ unsigned_abs p
    → in_reach b p ≡ (if b then Err LimitMultiples else Err Empty)
in_reach_over true p l = rw (le-leb (2 ^ 127) (unsigned_abs p) l) refl
in_reach_over false p l = refl

none_reached : (m : ℕ) (low high : Option ℤ) (k : ℕ) → is_near low ≡ true → is_near high ≡ true
    → sized (place m low high k) ≡ None
    → in_reach (is_below high (place m low high k)) (place m low high k) ≡ Err (after_last low high)
none_reached m (Some l) (Some h) k p q e =
    let x = multiple_from m l k in
    let a : l ≤ℤ x = above_low m l k in
    let c : 2 ^ 127 ≤ unsigned_abs x = sized-None x e in
    let u : unsigned_abs l ≤ 2 ^ 64 = leb-true _ _ p in
    let v : unsigned_abs h ≤ 2 ^ 64 = leb-true _ _ q in
    let b : int_le x h ≡ false = le_false x h (omega (arith, ints)) in
    in_reach_over (int_le x h) x c ∙ ap (λ t. if t then Err LimitMultiples else Err Empty) b
none_reached m (Some l) None k p q e = in_reach_over true (multiple_from m l k)
    (sized-None (multiple_from m l k) e)
none_reached m None (Some h) k p q e =
    let y = multiple_from m (neg_ℤ h) k in
    let a : neg_ℤ h ≤ℤ y = above_low m (neg_ℤ h) k in
    let c : 2 ^ 127 ≤ unsigned_abs (neg_ℤ y) = sized-None (neg_ℤ y) e in
    let b : int_le (neg_ℤ y) h ≡ true = le_true (neg_ℤ y) h (omega (arith, ints)) in
    in_reach_over (int_le (neg_ℤ y) h) (neg_ℤ y) c ∙ ap (λ t. if t then Err LimitMultiples else Err Empty) b
none_reached m None None k p q e = in_reach_over true (alternate m k) (sized-None (alternate m k) e)

pub ready_parts : (g : Group) → is_ready g ≡ true → (is_near g.low ≡ true) × (is_near g.high ≡ true)
ready_parts g r =
    let (a, b) = and_parts _ _ r in let (c, d) = and_parts _ _ a in let (e, f) = and_parts _ _ c in (e, f)

pub reached-None : (m : ℕ) (g : Group) (k : ℕ) → is_ready g ≡ true → sized (place m g.low g.high k) ≡ None
    → reached m g k ≡ Err (after_last g.low g.high)
unfolding reached
reached-None m g k r e =
    let (p, q) = ready_parts g r in none_reached m g.low g.high k p q e

pub lt_true : (a b : ℤ) → a <ℤ b → int_lt a b ≡ true
lt_true a b e = grind (arith, ints)

pub lt_from : (a b : ℤ) → int_lt a b ≡ true → a <ℤ b
lt_from a b e = grind (arith, ints)
