-- A rising list clashes exactly where it does at neighbours.
use Rattle.std.proofs.Common.{◌≡◌, ℕ, ⊎_elim, Bool, true, ◌||◌, List, [], ◌∷◌, arith, sym, subst}
use Rattle.std.proofs.lemmas.Bool.{and_parts, or_cases, or_left, or_right, true≢false}
use Rattle.documents.specs.Tests.{every, some}
use Rattle.positions.specs.Position.{Position}
use Rattle.goals.specs.Signed.{Signed, Plus, Minus, same_signed, comes_before, opposite, has, is_rising}
use Rattle.goals.specs.Goal.{clashes, is_never}
use Rattle.js_algebra.specs.Order.{order_of}
use Rattle.js_algebra.specs.Close.{begins_with, clashes_nearby}
use Rattle.js_algebra.proofs.Orders.{before_lt, same_eq}
use Rattle.js_algebra.proofs.Sets.{has_after}
use Rattle.list_laws.proofs.Booleans.{same_test}
use Rattle.goal_laws.proofs.Signs.{same_signed-true, same_signed-itself}

module _ (T : List Position) where
  abbrev clash_in : List Signed → Signed → Bool
  clash_in R x = is_never T x || has (opposite x) R

  -- a position with both signs has them side by side
  both : (p : ℕ) (S : List Signed) → is_rising S ≡ true → has (Plus p) S ≡ true → has (Minus p) S ≡ true
      → clashes_nearby T S ≡ true
  both p [] e h k = absurd (true≢false (sym h))
  both p (y ∷ S) e h k =
      let (a, b) = and_parts (every (comes_before y) S) (is_rising S) e in
      ⊎_elim
      (λ s. or_left _ (clashes_nearby T S) (or_right (is_never T y) _
      (next S a b (same_eq (Plus p) y s) (same_signed-true (Plus p) y s)
      (⊎_elim (λ m. absurd (omega (arith, same_eq (Plus p) y s, same_eq (Minus p) y m))) (λ i. i)
      (or_cases (same_signed (Minus p) y) (has (Minus p) S) k)))))
      (λ i. or_right (is_never T y || begins_with (opposite y) S) (clashes_nearby T S)
      (both p S b i (⊎_elim (λ m. absurd (omega (arith, has_after (Plus p) y S a i, same_eq (Minus p) y m))) (λ j. j)
      (or_cases (same_signed (Minus p) y) (has (Minus p) S) k))))
      (or_cases (same_signed (Plus p) y) (has (Plus p) S) h)
    where
      next : (S : List Signed) → every (comes_before y) S ≡ true → is_rising S ≡ true → order_of (Plus p) ≡ order_of y
          → Plus p ≡ y
          → has (Minus p) S ≡ true → begins_with (opposite y) S ≡ true
      next [] a b q s i = absurd (true≢false (sym i))
      next (z ∷ S) a b q s i =
          let (a1, a2) = and_parts (comes_before y z) (every (comes_before y) S) a in
          let (b1, b2) = and_parts (every (comes_before z) S) (is_rising S) b in
          let m : same_signed (Minus p) z ≡ true =
          ⊎_elim (λ t. t) (λ j. absurd (omega (arith, has_after (Minus p) z S b1 j, before_lt y z a1, q)))
          (or_cases (same_signed (Minus p) z) (has (Minus p) S) i)
          in subst (λ w. same_signed (opposite w) z ≡ true) s m

  never : (x : Signed) (S : List Signed) → has x S ≡ true → is_never T x ≡ true → clashes_nearby T S ≡ true
  never x [] h n = absurd (true≢false (sym h))
  never x (y ∷ S) h n =
      ⊎_elim
      (λ s. or_left _ (clashes_nearby T S) (or_left _ (begins_with (opposite y) S)
      (subst (λ w. is_never T w ≡ true) (same_signed-true x y s) n)))
      (λ i. or_right (is_never T y || begins_with (opposite y) S) (clashes_nearby T S) (never x S i n))
      (or_cases (same_signed x y) (has x S) h)

  -- some signed position of the list clashes
  found : (S R : List Signed) → some (clash_in R) S ≡ true → (z : Signed) × (has z S ≡ true) × (clash_in R z ≡ true)
  found [] R e = absurd (true≢false (sym e))
  found (x ∷ S) R e =
      ⊎_elim (λ a. (x, or_left _ (has x S) (same_signed-itself x), a))
      (λ b. let (z, h, c) = found S R b in (z, or_right (same_signed z x) (has z S) h, c))
      (or_cases (clash_in R x) (some (clash_in R) S) e)

  nearby : (S : List Signed) → is_rising S ≡ true → clashes T S ≡ true → clashes_nearby T S ≡ true
  nearby S e c =
      let (z, h, k) = found S S c in
      ⊎_elim (λ n. never z S h n) (λ o. at_both z h o) (or_cases (is_never T z) (has (opposite z) S) k)
    where
      at_both : (z : Signed) → has z S ≡ true → has (opposite z) S ≡ true → clashes_nearby T S ≡ true
      at_both (Plus p) h o = both p S e h o
      at_both (Minus p) h o = both p S e o h

  begins_has : (x : Signed) (S : List Signed) → begins_with x S ≡ true → has x S ≡ true
  begins_has x [] e = e
  begins_has x (y ∷ S) e = or_left (same_signed x y) (has x S) e

  anywhere : (S R : List Signed) → ((z : Signed) → has z S ≡ true → has z R ≡ true) → clashes_nearby T S ≡ true
      → some (clash_in R) S ≡ true
  anywhere [] R m e = e
  anywhere (x ∷ S) R m e =
      let more = λ (z : Signed) (h : has z S ≡ true). m z (or_right (same_signed z x) (has z S) h) in
      ⊎_elim
      (λ a. or_left (clash_in R x) _
      (⊎_elim (λ n. or_left _ (has (opposite x) R) n)
      (λ b. or_right (is_never T x) _ (more (opposite x) (begins_has (opposite x) S b)))
      (or_cases (is_never T x) (begins_with (opposite x) S) a)))
      (λ b. or_right (clash_in R x) _ (anywhere S R more b))
      (or_cases (is_never T x || begins_with (opposite x) S) (clashes_nearby T S) e)

  -- a rising list clashes exactly where a test of neighbours says so
  pub clashes-nearby : (S : List Signed) → is_rising S ≡ true → clashes T S ≡ clashes_nearby T S
  clashes-nearby S e = same_test _ _ (nearby S e) (anywhere S S (λ z h. h))
