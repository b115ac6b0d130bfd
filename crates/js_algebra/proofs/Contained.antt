-- One pass over two rising lists decides whether one contains the other.
use Rattle.std.proofs.Common.{◌≡◌, ℕ, ◌+◌, ◌-◌, ◌<◌, ◌≤◌, Bool, true, false, ◌&&◌, ◌||◌, List, [], ◌∷◌, map, take, drop, length, get_or, refl, arith, ap, ap₂, nat_eq, sym, ◌∙◌, add-one, drop-cons}
use Rattle.std.proofs.lemmas.Bool.{and_parts, ne_eqb}
use Rattle.std.proofs.lemmas.Grind.{common_steps}
use Rattle.documents.specs.Tests.{every}
use Rattle.documents.specs.Document.{Document}
use Rattle.positions.specs.Position.{Position}
use Rattle.positions.specs.Holds.{holds}
use Rattle.goal_laws.proofs.Signs.{has-every, every-has, same_signed-true, same_signed-itself}
use Rattle.goals.specs.Signed as G
use Rattle.goals.specs.Signed.{same_signed, comes_before, has, is_rising}
use Rattle.goals.specs.Goal.{contains}
use Rattle.js_algebra.specs.Order.{order_of}
use Rattle.js_algebra.specs.View.{signed_view}
use Rattle.js_algebra.specs.declared.signed.Signed.{Signed}
use Rattle.js_algebra.proofs.Orders.{before_lt, lt_before, ne_same, same_ne}
use Rattle.js_algebra.proofs.Sets.{above, before_lacks}

-- what is before the small list can't be one of it
pub contains_skip : (x : G.Signed) (B R : List G.Signed) → every (comes_before x) R ≡ true
    → contains (x ∷ B) R ≡ contains B R
contains_skip x B [] e = refl
contains_skip x B (y ∷ R) e =
    let (a, b) = and_parts (comes_before x y) (every (comes_before x) R) e in
    let n : same_signed y x ≡ false = ne_same y x (λ q. omega (arith, before_lt x y a, q)) in
    ap₂ (λ s t. s && t) (ap (λ s. s || has y B) n) (contains_skip x B R b)

pub contains_same : (x : G.Signed) (B R : List G.Signed) → is_rising (x ∷ R) ≡ true
    → contains (x ∷ B) (x ∷ R) ≡ contains B R
contains_same x B R e =
    ap (λ s. (s || has x B) && contains (x ∷ B) R) (same_signed-itself x)
    ∙ contains_skip x B R (and_parts (every (comes_before x) R) (is_rising R) e).0

pub contains_later : (x y : G.Signed) (B R : List G.Signed) → order_of x < order_of y → is_rising (y ∷ R) ≡ true
    → contains (x ∷ B) (y ∷ R) ≡ contains B (y ∷ R)
contains_later x y B R l e =
    let a = (and_parts (every (comes_before y) R) (is_rising R) e).0 in
    let b : every (comes_before x) (y ∷ R) ≡ true =
    ap₂ (λ s t. s && t) (lt_before x y l) (above x y R (omega (arith, l)) a) in
    contains_skip x B (y ∷ R) b

pub contains_not : (x y : G.Signed) (B R : List G.Signed) → order_of y < order_of x → is_rising (x ∷ B) ≡ true
    → contains (x ∷ B) (y ∷ R) ≡ false
contains_not x y B R l e =
    let a = (and_parts (every (comes_before x) B) (is_rising B) e).0 in
    let n : same_signed y x ≡ false = ne_same y x (λ q. omega (arith, q)) in
    ap (λ s. s && contains (x ∷ B) R) (ap₂ (λ s t. s || t) n (before_lacks y x B (omega (arith, l)) a))

-- what is left of both lists decides, and both rise
pub record Keeps (answer : Bool) (B R : List Signed) : Type 0 where
  pub decides : contains (map signed_view B) (map signed_view R) ≡ answer
  pub small_rises : is_rising (map signed_view R) ≡ true
  pub big_rises : is_rising (map signed_view B) ≡ true

rest_rises : (x : Signed) (S : List Signed) → is_rising (map signed_view (x ∷ S)) ≡ true
    → is_rising (map signed_view S) ≡ true
rest_rises x S e = (and_parts (every (comes_before (signed_view x)) (map signed_view S)) _ e).1

pub keeps_same : (answer : Bool) (x y : Signed) (B R : List Signed) → same_signed (signed_view x) (signed_view y) ≡ true
    → Keeps answer (x ∷ B) (y ∷ R) → Keeps answer B R
keeps_same answer x y B R s k = record {
  decides =
      sym (contains_same (signed_view y) (map signed_view B) (map signed_view R) k.small_rises)
      ∙ ap (λ z. contains (z ∷ map signed_view B) (map signed_view (y ∷ R))) (sym (same_signed-true _ _ s)) ∙ k.decides;
  small_rises = rest_rises y R k.small_rises;
  big_rises = rest_rises x B k.big_rises;
}

pub keeps_later : (answer : Bool) (x y : Signed) (B R : List Signed)
    → same_signed (signed_view x) (signed_view y) ≡ false
    → order_of (signed_view x) ≤ order_of (signed_view y) → Keeps answer (x ∷ B) (y ∷ R) → Keeps answer B (y ∷ R)
keeps_later answer x y B R n l k = record {
  decides =
      (let m : order_of (signed_view x) < order_of (signed_view y) =
      omega (arith, same_ne (signed_view x) (signed_view y) n) in
      sym (contains_later (signed_view x) (signed_view y) (map signed_view B) (map signed_view R) m k.small_rises)
      ∙ k.decides);
  small_rises = k.small_rises;
  big_rises = rest_rises x B k.big_rises;
}

pub keeps_not : (answer : Bool) (x y : Signed) (B R : List Signed) → order_of (signed_view y) < order_of (signed_view x)
    → Keeps answer (x ∷ B) (y ∷ R) → false ≡ answer
keeps_not answer x y B R l k = sym (contains_not (signed_view x) (signed_view y) (map signed_view B)
    (map signed_view R) l k.big_rises) ∙ k.decides

-- what is left from a place on
pub drop-at : (xs : List Signed) (i : ℕ) (d : Signed) → i < length xs → drop i xs ≡ get_or xs i d ∷ drop (i + 1) xs
drop-at xs i d l = rw add-one (drop-cons xs i d l)

pub from_first : (xs : List Signed) (d : Signed) → 1 ≤ length xs → xs ≡ get_or xs 0 d ∷ drop 1 xs
from_first [] d l = absurd (omega (arith, l))
from_first (x ∷ xs) d l = refl

pub keeps_end : (answer : Bool) (B R : List Signed) → length B ≡ 0 → Keeps answer B R → nat_eq (length R) 0 ≡ answer
keeps_end answer [] [] e k = k.decides
keeps_end answer [] (y ∷ R) e k = ne_eqb _ _ (λ q. omega (arith, q)) ∙ k.decides
keeps_end answer (x ∷ B) R e k = absurd (omega (arith, e))

-- the slice after the first
pub after_first : (xs : List Signed) → take (length xs - 1) (drop 1 xs) ≡ drop 1 xs
after_first [] = refl
after_first (x ∷ xs) = grind (arith, common_steps)

pub keeps_none : (answer : Bool) (B R : List Signed) → length R ≡ 0 → Keeps answer B R → true ≡ answer
keeps_none answer B [] e k = k.decides
keeps_none answer B (y ∷ R) e k = absurd (omega (arith, e))

-- the greater goal requires more
pub contained-met : (big small : List G.Signed) (r : Bool) → r ≡ contains big small
    → (T : List Position) (J : Document) → r ≡ true → G.meets T big J ≡ true → G.meets T small J ≡ true
contained-met big small r e T J h m =
    let test = G.met (λ p. holds T p J) in
    has-every test small (λ x i. every-has test big x m (every-has (λ y. has y big) small x (sym e ∙ h) i))
