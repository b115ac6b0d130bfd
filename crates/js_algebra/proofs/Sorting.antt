-- A list that was sorted by its numbers, with repeats dropped, is the rising list of its signed positions.
use Rattle.std.proofs.Common.{◌≡◌, ℕ, suc, ◌<◌, ◌≤◌, Bool, true, false, ◌&&◌, ◌||◌, cond, List, [], ◌∷◌, map, nat_eq, refl, arith, ap, sym, ◌∙◌}
use Rattle.std.specs.Bool.{beq}
use Rattle.std.specs.List.{dedup, dedup_from, list_any}
use Rattle.std.specs.List.Sorted.{IsPermutation, IsNonDecreasingBy}
use Rattle.std.proofs.lemmas.Bool.{and_from, and_right, true≢false}
use Rattle.std.proofs.lemmas.List.Sorted.{list_any-IsPermutation}
use Rattle.documents.specs.Tests.{every, some}
use Rattle.goals.specs.Signed as G
use Rattle.goals.specs.Signed.{comes_before, has, add_all, is_rising, same_signed}
use Rattle.js_algebra.specs.Order.{order_of}
use Rattle.js_algebra.specs.View.{signed_view, with_sign}
use Rattle.js_algebra.specs.declared.signed.Signed.{Signed}
use Rattle.js_algebra.proofs.Orders.{lt_before, same_ne}
use Rattle.js_algebra.proofs.Sets.{rising-unique}
use Rattle.goal_laws.proofs.Signs.{same_signed-true, is_rising-add_all, some-add_all}
use Rattle.std.proofs.Math.Bool.{or-false, and-true}

-- numbers that never fall, from one on
abbrev pub Ascends : ℕ → List Signed → Type 0
Ascends a [] = Unit {0}
Ascends a (x ∷ xs) = (a ≤ order_of (signed_view x)) × Ascends (order_of (signed_view x)) xs

pub ascends : (x : Signed) (xs : List Signed) → IsNonDecreasingBy (λ y. order_of (signed_view y)) (x ∷ xs)
    → Ascends (order_of (signed_view x)) xs
ascends x [] h = tt
ascends x (y ∷ xs) h =
    (h 0 1 x (omega arith) (omega arith), ascends y xs (λ i j d l k. h (suc i) (suc j) d (omega arith) (omega arith)))

ascends_more : (a b : ℕ) (xs : List Signed) → a ≤ b → Ascends b xs → Ascends a xs
ascends_more a b [] l h = tt
ascends_more a b (x ∷ xs) l h = (omega (arith, h.0), h.1)

or_same : (a b c : Bool) → a ≡ b → (a || c) ≡ (a || (b || c))
or_same true b c e = refl
or_same false true c e = absurd (true≢false (sym e))
or_same false false c e = refl

module _ (E : Signed → Signed → Bool) (equal : (x y : Signed) → E x y ≡ same_signed (signed_view x) (signed_view y))
  where
    -- what is before the numbers is before each that is kept
    before_kept : (z : G.Signed) (k : Signed) (xs : List Signed) → order_of z < order_of (signed_view k)
        → Ascends (order_of (signed_view k)) xs
        → every (comes_before z) (map signed_view (dedup_from E k xs)) ≡ true
    before_kept z k [] l h = and_from _ _ (lt_before z (signed_view k) l) refl
    before_kept z k (x ∷ xs) l h =
        go (E x k) (before_kept z k xs l (ascends_more _ _ xs h.0 h.1)) (before_kept z x xs (omega (arith, h.0)) h.1)
      where
        go : (b : Bool) → every (comes_before z) (map signed_view (dedup_from E k xs)) ≡ true
            → every (comes_before z) (map signed_view (dedup_from E x xs)) ≡ true
            → every (comes_before z) (map signed_view (cond b (dedup_from E k xs) (k ∷ dedup_from E x xs))) ≡ true
        go true a b = a
        go false a b = and_from _ _ (lt_before z (signed_view k) l) b

    some_kept : (p : G.Signed → Bool) (k : Signed) (xs : List Signed)
        → some p (map signed_view (dedup_from E k xs)) ≡ (p (signed_view k) || some p (map signed_view xs))
    some_kept p k [] = refl
    some_kept p k (x ∷ xs) = go (E x k) refl (some_kept p k xs) (some_kept p x xs) where
      go : (b : Bool) → E x k ≡ b → some p (map signed_view (dedup_from E k xs)) ≡
          (p (signed_view k) || some p (map signed_view xs))
          → some p (map signed_view (dedup_from E x xs)) ≡ (p (signed_view x) || some p (map signed_view xs))
          → some p (map signed_view (cond b (dedup_from E k xs) (k ∷ dedup_from E x xs)))
          ≡ (p (signed_view k) || (p (signed_view x) || some p (map signed_view xs)))
      go true e a b =
          a
          ∙ or_same (p (signed_view k)) (p (signed_view x)) _ (ap p (sym (same_signed-true _ _ (sym (equal x k) ∙ e))))
      go false e a b = ap (λ t. p (signed_view k) || t) b

    rising_kept : (k : Signed) (xs : List Signed) → Ascends (order_of (signed_view k)) xs
        → is_rising (map signed_view (dedup_from E k xs)) ≡ true
    rising_kept k [] h = refl
    rising_kept k (x ∷ xs) h = go (E x k) refl (rising_kept k xs (ascends_more _ _ xs h.0 h.1))
        (rising_kept x xs h.1) where
          go : (b : Bool) → E x k ≡ b → is_rising (map signed_view (dedup_from E k xs)) ≡ true
              → is_rising (map signed_view (dedup_from E x xs)) ≡ true
              → is_rising (map signed_view (cond b (dedup_from E k xs) (k ∷ dedup_from E x xs))) ≡ true
          go true e a b = a
          go false e a b =
              let n = same_ne (signed_view x) (signed_view k) (sym (equal x k) ∙ e) in
              let l : order_of (signed_view k) < order_of (signed_view x) = omega (arith, h.0, n) in
              and_from _ _ (before_kept (signed_view k) x xs l h.1) b

    some_dedup : (p : G.Signed → Bool) (xs : List Signed)
        → some p (map signed_view (dedup E xs)) ≡ some p (map signed_view xs)
    some_dedup p [] = refl
    some_dedup p (x ∷ xs) = some_kept p x xs

    rising_dedup : (xs : List Signed) → IsNonDecreasingBy (λ y. order_of (signed_view y)) xs
        → is_rising (map signed_view (dedup E xs)) ≡ true
    rising_dedup [] h = refl
    rising_dedup (x ∷ xs) h = rising_kept x xs (ascends x xs h)

    some-list_any : (p : G.Signed → Bool) (xs : List Signed)
        → some p (map signed_view xs) ≡ list_any (λ x. p (signed_view x)) xs
    some-list_any p [] = refl
    some-list_any p (x ∷ xs) = ap (λ b. p (signed_view x) || b) (some-list_any p xs)

    -- what the sort and then `dedup` leave
    pub sorted_list : (xs ys zs : List Signed) → IsPermutation xs ys
        → IsNonDecreasingBy (λ y. order_of (signed_view y)) ys → zs ≡ dedup E ys
        → map signed_view zs ≡ add_all (map signed_view xs) []
    sorted_list xs ys zs m up e =
        ap (map signed_view) e ∙ rising-unique _ _ (rising_dedup ys up) (is_rising-add_all (map signed_view xs) [] refl)
        (λ z.
        some_dedup (same_signed z) ys ∙ some-list_any (same_signed z) ys ∙ sym (list_any-IsPermutation _ xs ys m)
        ∙ sym (some-list_any (same_signed z) xs)
        ∙ sym (or-false _) ∙ sym (some-add_all (same_signed z) (map signed_view xs) []))

-- equal fields are the same signed position
pub same_fields : (a b : Bool) (p q : ℕ) → (nat_eq p q && beq a b) ≡ same_signed (with_sign a p) (with_sign b q)
same_fields true true p q = and-true (nat_eq p q)
same_fields true false p q = and_right (nat_eq p q) false refl
same_fields false true p q = and_right (nat_eq p q) false refl
same_fields false false p q = and-true (nat_eq p q)
