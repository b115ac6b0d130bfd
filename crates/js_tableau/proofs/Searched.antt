-- A member of a rising list is where the lesser members end.
use Rattle.std.proofs.Common.{◌≡◌, ℕ, zero, suc, ◌<◌, ◌≤◌, ⊎_elim, Bool, true, false, List, [], ◌∷◌, map, length, get_or, refl, arith, ap, sym, ◌∙◌, subst, nat_lt}
use Rattle.std.proofs.lemmas.Bool.{true≢false, or_cases, or_left, or_right, and_parts, ltb-true, ltb-false, lt-ltb, false_from_ne_true, cases_lt}
use Rattle.std.specs.List.Sorted.{IsPartitionedBy, IsPartitionPoint}
use Rattle.documents.specs.Tests.{every}
use Rattle.goals.specs.Signed as G
use Rattle.goals.specs.Signed.{has, same_signed, comes_before, is_rising}
use Rattle.js_algebra.specs.Order.{order_of}
use Rattle.js_algebra.specs.View.{signed_view}
use Rattle.js_algebra.specs.declared.signed.Signed.{Signed}
use Rattle.js_algebra.proofs.Orders.{before_lt, same_eq}
use Rattle.goal_laws.proofs.Signs.{same_signed-true, same_signed-itself}

abbrev pub number : Signed → ℕ
number y = order_of (signed_view y)

-- where a member is
pub stands : (z : G.Signed) (xs : List Signed) → has z (map signed_view xs) ≡ true
    → (j : ℕ) × (w : Signed) × (j < length xs) × (w ≡ get_or xs j w) × (same_signed z (signed_view w) ≡ true)
stands z [] e = absurd (true≢false (sym e))
stands z (x ∷ xs) e =
    ⊎_elim (λ s. (0, x, omega arith, refl, s))
    (λ h. let (j, w, l, a, s) = stands z xs h in (suc j, w, omega (arith, l), a, s))
    (or_cases (same_signed z (signed_view x)) (has z (map signed_view xs)) e)

pub has_at : (xs : List Signed) (i : ℕ) (x : Signed) → i < length xs → x ≡ get_or xs i x
    → has (signed_view x) (map signed_view xs) ≡ true
has_at [] i x l e = absurd (omega (arith, l))
has_at (y ∷ xs) zero x l e = or_left _ (has (signed_view x) (map signed_view xs))
    (subst (λ w. same_signed (signed_view x) (signed_view w) ≡ true) e (same_signed-itself (signed_view x)))
has_at (y ∷ xs) (suc i) x l e = or_right (same_signed (signed_view x) (signed_view y)) _
    (has_at xs i x (omega (arith, l)) e)

pub same_place : (xs : List Signed) (i : ℕ) (w y : Signed) → i < length xs → get_or xs i w ≡ get_or xs i y
same_place [] i w y l = absurd (omega (arith, l))
same_place (x ∷ xs) zero w y l = refl
same_place (x ∷ xs) (suc i) w y l = same_place xs i w y (omega (arith, l))

every_at : (p : G.Signed → Bool) (xs : List Signed) (j : ℕ) (d : Signed) → every p (map signed_view xs) ≡ true
    → j < length xs → p (signed_view (get_or xs j d)) ≡ true
every_at p [] j d e l = absurd (omega (arith, l))
every_at p (x ∷ xs) zero d e l = (and_parts (p (signed_view x)) (every p (map signed_view xs)) e).0
every_at p (x ∷ xs) (suc j) d e l =
    every_at p xs j d (and_parts (p (signed_view x)) (every p (map signed_view xs)) e).1 (omega (arith, l))

rising_at : (xs : List Signed) (i j : ℕ) (d : Signed) → is_rising (map signed_view xs) ≡ true → i < j
    → j < length xs → number (get_or xs i d) < number (get_or xs j d)
rising_at [] i j d e l m = absurd (omega (arith, m))
rising_at (x ∷ xs) zero zero d e l m = absurd (omega (arith, l))
rising_at (x ∷ xs) (suc i) zero d e l m = absurd (omega (arith, l))
rising_at (x ∷ xs) zero (suc j) d e l m =
    before_lt (signed_view x) (signed_view (get_or xs j d))
    (every_at (comes_before (signed_view x)) xs j d
    (and_parts (every (comes_before (signed_view x)) (map signed_view xs)) (is_rising (map signed_view xs)) e).0
    (omega (arith, m)))
rising_at (x ∷ xs) (suc i) (suc j) d e l m =
    rising_at xs i j d
    (and_parts (every (comes_before (signed_view x)) (map signed_view xs)) (is_rising (map signed_view xs)) e).1
    (omega (arith, l)) (omega (arith, m))

pub parted : (xs : List Signed) (n : ℕ) → is_rising (map signed_view xs) ≡ true
    → IsPartitionedBy (λ y. nat_lt (number y) n) xs
parted xs n e = λ i j d l m h.
    ⊎_elim (λ k. lt-ltb _ _ (omega (arith, rising_at xs i j d e k m, ltb-true _ _ h)))
    (λ k. let same : i ≡ j = omega (arith, k, l) in subst (λ a. nat_lt (number (get_or xs a d)) n ≡ true) (sym same) h)
    (cases_lt i j)

module _ (x : Signed) (xs : List Signed) (i : ℕ) (rising : is_rising (map signed_view xs) ≡ true)
    (point : IsPartitionPoint (λ y. nat_lt (number y) (number x) ≡ true)
    (λ y. nat_lt (number y) (number x) ≡ false) xs i) where
  -- a member isn't among the lesser ones
  pub has_none : length xs ≤ i → false ≡ has (signed_view x) (map signed_view xs)
  has_none l = sym (false_from_ne_true _ (λ h.
      let (j, w, m, a, s) = stands (signed_view x) xs h in
      let b = ltb-true _ _ (point.0 j w (omega arith) (omega (arith, l, m))) in
      omega (arith, b, ap number a, same_eq (signed_view x) (signed_view w) s)))

  pub has_here : (y : Signed) → i < length xs → y ≡ get_or xs i y
      → same_signed (signed_view y) (signed_view x) ≡ has (signed_view x) (map signed_view xs)
  has_here y l e = go (same_signed (signed_view y) (signed_view x)) refl where
    elsewhere : (j : ℕ) (w : Signed) → j < length xs → w ≡ get_or xs j w
        → same_signed (signed_view x) (signed_view w) ≡ true
        → same_signed (signed_view y) (signed_view x) ≡ true
    elsewhere j w m a s =
        ⊎_elim
        (λ k. absurd (omega (
          arith,
          ltb-true _ _ (point.0 j w (omega arith) k),
          ap number a,
          same_eq (signed_view x) (signed_view w) s,
        )))
        (λ k. ⊎_elim
        (λ u. absurd (omega (
          arith,
          rising_at xs i j w rising u m,
          ltb-false _ _ (point.1 i w (omega arith) l),
          ap number a,
          same_eq (signed_view x) (signed_view w) s,
        )))
        (λ u. let same : i ≡ j = omega (arith, k, u) in
        let q : y ≡ w = e ∙ same_place xs i y w l ∙ ap (λ n. get_or xs n w) same ∙ sym a in
        subst (λ v. same_signed (signed_view v) (signed_view x) ≡ true) (sym q)
        (subst (λ z. same_signed (signed_view w) z ≡ true) (sym (same_signed-true _ _ s))
        (same_signed-itself (signed_view w))))
        (cases_lt i j))
        (cases_lt j i)

    go : (b : Bool) → same_signed (signed_view y) (signed_view x) ≡ b → b ≡ has (signed_view x) (map signed_view xs)
    go true s = sym (subst (λ z. has z (map signed_view xs) ≡ true) (same_signed-true _ _ s) (has_at xs i y l e))
    go false s = sym (false_from_ne_true _ (λ h.
        let (j, w, m, a, t) = stands (signed_view x) xs h in true≢false (sym (elsewhere j w m a t) ∙ s)))
