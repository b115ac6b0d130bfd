-- Rising lists as sets: a list with the same signed positions that rises is the same list.
use Rattle.std.proofs.Common.{◌≡◌, ◌<◌, ◌≤◌, ⊎_elim, Bool, true, false, ◌||◌, List, [], ◌∷◌, refl, arith, ap, sym, ◌∙◌, subst}
use Rattle.std.proofs.lemmas.Bool.{and_parts, and_from, or_cases, true≢false}
use Rattle.documents.specs.Tests.{every}
use Rattle.goals.specs.Signed.{Signed, same_signed, comes_before, has, is_rising}
use Rattle.js_algebra.specs.Order.{order_of}
use Rattle.js_algebra.proofs.Orders.{before_lt, lt_before, same_eq, ne_same}
use Rattle.goal_laws.proofs.Signs.{same_signed-true, has-here}

-- what is before one is before all after it
pub above : (x y : Signed) (S : List Signed) → order_of x ≤ order_of y → every (comes_before y) S ≡ true
    → every (comes_before x) S ≡ true
above x y [] l e = refl
above x y (z ∷ S) l e =
    let (a, b) = and_parts (comes_before y z) (every (comes_before y) S) e in
    and_from _ _ (lt_before x z (omega (arith, before_lt y z a))) (above x y S l b)

-- what comes before a list isn't in it
pub before_lacks : (x y : Signed) (S : List Signed) → order_of x ≤ order_of y → every (comes_before y) S ≡ true
    → has x S ≡ false
before_lacks x y [] l e = refl
before_lacks x y (z ∷ S) l e =
    let (a, b) = and_parts (comes_before y z) (every (comes_before y) S) e in
    rw (ne_same x z (λ q. omega (arith, q, before_lt y z a))) (before_lacks x y S l b)

-- one that is in a list comes after what is before the list
pub has_after : (x y : Signed) (S : List Signed) → every (comes_before y) S ≡ true → has x S ≡ true
    → order_of y < order_of x
has_after x y [] e h = absurd (true≢false (sym h))
has_after x y (z ∷ S) e h =
    let (a, b) = and_parts (comes_before y z) (every (comes_before y) S) e in
    ⊎_elim (λ s. omega (arith, before_lt y z a, same_eq x z s)) (λ i. has_after x y S b i)
    (or_cases (same_signed x z) (has x S) h)

-- the heads of rising lists with the same signed positions
heads : (x y : Signed) (S R : List Signed) → every (comes_before x) S ≡ true → every (comes_before y) R ≡ true
    → ((z : Signed) → has z (x ∷ S) ≡ has z (y ∷ R)) → x ≡ y
heads x y S R a b e =
    ⊎_elim (λ s. same_signed-true x y s)
    (λ i. ⊎_elim (λ s. sym (same_signed-true y x s))
    (λ j. absurd (omega (arith, has_after x y R b i, has_after y x S a j)))
    (or_cases (same_signed y x) (has y S) (e y ∙ has-here y R)))
    (or_cases (same_signed x y) (has x R) (sym (e x) ∙ has-here x S))

tails : (x : Signed) (S R : List Signed) → every (comes_before x) S ≡ true → every (comes_before x) R ≡ true
    → ((z : Signed) → has z (x ∷ S) ≡ has z (x ∷ R)) → (z : Signed) → has z S ≡ has z R
tails x S R a b e z = go (same_signed z x) refl (e z) where
  go : (t : Bool) → same_signed z x ≡ t → (t || has z S) ≡ (t || has z R) → has z S ≡ has z R
  go false s h = h
  go true s h =
      let l : order_of z ≤ order_of x = omega (arith, same_eq z x s) in before_lacks z x S l a
      ∙ sym (before_lacks z x R l b)

pub rising-unique : (S R : List Signed) → is_rising S ≡ true → is_rising R ≡ true → ((z : Signed) → has z S ≡ has z R)
    → S ≡ R
rising-unique [] [] a b e = refl
rising-unique [] (y ∷ R) a b e = absurd (true≢false (sym (e y ∙ has-here y R)))
rising-unique (x ∷ S) [] a b e = absurd (true≢false (sym (sym (e x) ∙ has-here x S)))
rising-unique (x ∷ S) (y ∷ R) a b e =
    let (a1, a2) = and_parts (every (comes_before x) S) (is_rising S) a in
    let (b1, b2) = and_parts (every (comes_before y) R) (is_rising R) b in
    let h = heads x y S R a1 b1 e in
    let c : every (comes_before x) R ≡ true = subst (λ w. every (comes_before w) R ≡ true) (sym h) b1 in
    let f : (z : Signed) → has z (x ∷ S) ≡ has z (x ∷ R) = λ z.
    subst (λ w. has z (x ∷ S) ≡ has z (w ∷ R)) (sym h) (e z) in
    subst (λ w. x ∷ S ≡ w ∷ R) h (ap (λ T. x ∷ T) (rising-unique S R a2 b2 (tails x S R a1 c f)))
