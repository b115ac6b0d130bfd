-- Signed positions are ordered as their numbers are.
use Rattle.std.proofs.Common.{◌≡◌, ◌+◌, ◌*◌, ◌<◌, ◌≤◌, true, false, arith, ap, sym, ◌∙◌, nat_eq, nat_lt}
use Rattle.std.proofs.lemmas.Bool.{ltb-true, leb-true, eqb-true, eqb-false, lt-ltb, le-leb, eq-eqb, ne_eqb}
use Rattle.goals.specs.Signed.{Signed, Plus, Minus, same_signed, comes_before}
use Rattle.js_algebra.specs.Order.{order_of}
use Rattle.list_laws.proofs.Booleans.{same_test}

pub before-order : (x y : Signed) → comes_before x y ≡ nat_lt (order_of x) (order_of y)
before-order (Plus p) (Plus q) = same_test _ _ (λ e. lt-ltb _ _ (omega (arith, ltb-true p q e)))
    (λ e. lt-ltb _ _ (omega (arith, ltb-true (2 * p) (2 * q) e)))
before-order (Plus p) (Minus q) = same_test _ _ (λ e. lt-ltb _ _ (omega (arith, leb-true p q e)))
    (λ e. le-leb _ _ (omega (arith, ltb-true (2 * p) (2 * q + 1) e)))
before-order (Minus p) (Plus q) = same_test _ _ (λ e. lt-ltb _ _ (omega (arith, ltb-true p q e)))
    (λ e. lt-ltb _ _ (omega (arith, ltb-true (2 * p + 1) (2 * q) e)))
before-order (Minus p) (Minus q) = same_test _ _ (λ e. lt-ltb _ _ (omega (arith, ltb-true p q e)))
    (λ e. lt-ltb _ _ (omega (arith, ltb-true (2 * p + 1) (2 * q + 1) e)))

pub same-order : (x y : Signed) → same_signed x y ≡ nat_eq (order_of x) (order_of y)
same-order (Plus p) (Plus q) = same_test _ _ (λ e. eq-eqb _ _ (omega (arith, eqb-true p q e)))
    (λ e. eq-eqb _ _ (omega (arith, eqb-true (2 * p) (2 * q) e)))
same-order (Plus p) (Minus q) = sym (ne_eqb _ _ (λ e. omega (arith, e)))
same-order (Minus p) (Plus q) = sym (ne_eqb _ _ (λ e. omega (arith, e)))
same-order (Minus p) (Minus q) = same_test _ _ (λ e. eq-eqb _ _ (omega (arith, eqb-true p q e)))
    (λ e. eq-eqb _ _ (omega (arith, eqb-true (2 * p + 1) (2 * q + 1) e)))

pub before_lt : (x y : Signed) → comes_before x y ≡ true → order_of x < order_of y
before_lt x y e = ltb-true _ _ (sym (before-order x y) ∙ e)

pub lt_before : (x y : Signed) → order_of x < order_of y → comes_before x y ≡ true
lt_before x y l = before-order x y ∙ lt-ltb _ _ l

pub same_eq : (x y : Signed) → same_signed x y ≡ true → order_of x ≡ order_of y
same_eq x y e = eqb-true _ _ (sym (same-order x y) ∙ e)

pub ne_same : (x y : Signed) → (order_of x ≡ order_of y → ⊥) → same_signed x y ≡ false
ne_same x y n = same-order x y ∙ ne_eqb _ _ n

pub same_ne : (x y : Signed) → same_signed x y ≡ false → order_of x ≡ order_of y → ⊥
same_ne x y e = eqb-false _ _ (sym (same-order x y) ∙ e)

-- the number determines the signed position
pub order-same : (x y : Signed) → order_of x ≡ order_of y → x ≡ y
order-same (Plus p) (Plus q) e = ap Plus (omega (arith, e))
order-same (Plus p) (Minus q) e = absurd (omega (arith, e))
order-same (Minus p) (Plus q) e = absurd (omega (arith, e))
order-same (Minus p) (Minus q) e = ap Minus (omega (arith, e))
