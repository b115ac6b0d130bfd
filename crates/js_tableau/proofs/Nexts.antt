-- What the least ones say of the step at a set.
use Rattle.std.proofs.Common.{◌≡◌, ℕ, zero, suc, ◌≤◌, ⊎_elim, ◌⊎◌, inl, inr, Bool, true, false, ◌&&◌, ◌||◌, cond, not, nat_le, List, [], ◌∷◌, ◌++◌, take, drop, Option, Some, None, refl, arith, ap, ap₂, sym, ◌∙◌, subst}
use Rattle.std.proofs.lemmas.Bool.{true≢false, or_cases, or_left, or_right, and_parts, and_from, not-true, false_from_ne_true, leb-true, leb-false, not_from_false}
use Rattle.documents.specs.Tests.{every, some}
use Rattle.documents.specs.Kind.{Kind}
use Rattle.positions.specs.Position.{Position}
use Rattle.goal_laws.proofs.Signs.{every-has, has-every, opposite-opposite, same_signed-true, same_signed-itself, is_rising-add_all}
use Rattle.goals.specs.Signed.{Signed, Plus, Minus, has, same_signed, comes_before, opposite, position_of, is_rising}
use Rattle.goals.specs.Choices.{choices, is_wrong}
use Rattle.goals.specs.Tree.{Step, Clash, Wrong, Rule, Saturated, first, step_at, has_choice, choice_list, next}
use Rattle.js_algebra.specs.Order.{order_of}
use Rattle.js_algebra.proofs.Orders.{same_eq}
use Rattle.js_algebra.proofs.Sets.{has_after}
use Rattle.js_algebra.specs.SignedSets.{set_of}
use Rattle.js_tableau.specs.Least.{better, least_from}
use Rattle.js_tableau.specs.Walks.{IsLeast, is_clash, is_clean}
use Rattle.js_algebra.proofs.Grown.{has-append, has-set_of}

-- one more to look at
better-least : (p : Signed → Bool) (done : List Signed) (o : Option Signed) (x : Signed) → IsLeast p done o
    → IsLeast p (done ++ x ∷ []) (better (p x) o x)
better-least p done o x h = go (p x) refl o h where
  cases : (y : Signed) → has y (done ++ x ∷ []) ≡ true → (same_signed y x ≡ true) ⊎ (has y done ≡ true)
  cases y i = or_cases (same_signed y x) (has y done) (sym (has-append y x done) ∙ i)

  old : (y : Signed) → has y done ≡ true → has y (done ++ x ∷ []) ≡ true
  old y i = has-append y x done ∙ or_right (same_signed y x) (has y done) i

  new : has x (done ++ x ∷ []) ≡ true
  new = has-append x x done ∙ or_left (same_signed x x) (has x done) (same_signed-itself x)

  at : (y : Signed) (b : Bool) → p x ≡ b → same_signed y x ≡ true → p y ≡ b
  at y b e s = ap p (same_signed-true y x s) ∙ e

  less : (z : Signed) (b : Bool) → nat_le (order_of z) (order_of x) ≡ b → p x ≡ true → IsLeast p done (Some z)
      → IsLeast p (done ++ x ∷ []) (cond b (Some z) (Some x))
  less z true l e h = (
    old z h.0,
    h.1,
    λ y i k. ⊎_elim (λ s. omega (arith, same_eq y x s, leb-true _ _ l))
        (λ j. h.2 y j k) (cases y i),
  )
  less z false l e h = (
    new,
    e,
    λ y i k. ⊎_elim (λ s. omega (arith, same_eq y x s))
        (λ j. omega (arith, h.2 y j k, leb-false _ _ l)) (cases y i),
  )

  go : (b : Bool) → p x ≡ b → (o : Option Signed) → IsLeast p done o → IsLeast p (done ++ x ∷ []) (better b o x)
  go false e None h = λ y i. ⊎_elim (λ s. at y false e s) (λ j. h y j) (cases y i)
  go false e (Some z) h = (
    old z h.0,
    h.1,
    λ y i k.
        ⊎_elim (λ s. absurd (true≢false (sym k ∙ at y false e s))) (λ j. h.2 y j k) (cases y i),
  )
  go true e None h = (
    new,
    e,
    λ y i k. ⊎_elim (λ s. omega (arith, same_eq y x s))
        (λ j. absurd (true≢false (sym k ∙ h y j))) (cases y i),
  )
  go true e (Some z) h = less z (nat_le (order_of z) (order_of x)) refl e h

least_on : (p : Signed → Bool) (xs done : List Signed) (o : Option Signed) → IsLeast p done o
    → IsLeast p (done ++ xs) (least_from p o xs)
least_on p [] done o h = subst (λ ys. IsLeast p ys o) (sym (append_none done)) h where
  append_none : (ys : List Signed) → ys ++ [] ≡ ys
  append_none [] = refl
  append_none (y ∷ ys) = ap (λ zs. y ∷ zs) (append_none ys)
least_on p (x ∷ xs) done o h =
    subst (λ ys. IsLeast p ys (least_from p (better (p x) o x) xs)) (split done)
    (least_on p xs (done ++ x ∷ []) (better (p x) o x) (better-least p done o x h))
  where
    split : (ys : List Signed) → (ys ++ x ∷ []) ++ xs ≡ ys ++ x ∷ xs
    split [] = refl
    split (y ∷ ys) = ap (λ zs. y ∷ zs) (split ys)

pub least_from-is : (p : Signed → Bool) (xs : List Signed) (o : Option Signed) → o ≡ least_from p None xs
    → IsLeast p xs o
least_from-is p xs o e = subst (IsLeast p xs) (sym e) (least_on p xs [] None (λ y i. absurd (true≢false (sym i))))

-- the first that passes of a rising list is the least
first-least : (p : Signed → Bool) (S : List Signed) (o : Option Signed) → is_rising S ≡ true → IsLeast p S o
    → first p S ≡ o
first-least p [] None e h = refl
first-least p [] (Some x) e h = absurd (true≢false (sym h.0))
first-least p (y ∷ S) o e h =
    let (a, b) = and_parts (every (comes_before y) S) (is_rising S) e in
    go (p y) refl a o h (λ k. first-least p S o b k)
  where
    here : has y (y ∷ S) ≡ true
    here = or_left (same_signed y y) (has y S) (same_signed-itself y)

    there : (z : Signed) → has z S ≡ true → has z (y ∷ S) ≡ true
    there z i = or_right (same_signed z y) (has z S) i

    go : (b : Bool) → p y ≡ b → every (comes_before y) S ≡ true → (o : Option Signed) → IsLeast p (y ∷ S) o
        → (IsLeast p S o → first p S ≡ o)
        → cond b (Some y) (first p S) ≡ o
    go true k a None h more = absurd (true≢false (sym k ∙ h y here))
    go true k a (Some x) h more =
        ⊎_elim (λ s. ap Some (sym (same_signed-true x y s)))
        (λ i. absurd (omega (arith, h.2 y here k, has_after x y S a i)))
        (or_cases (same_signed x y) (has x S) h.0)
    go false k a None h more = more (λ z i. h z (there z i))
    go false k a (Some x) h more =
        more (
          ⊎_elim (λ s. absurd (true≢false (sym h.1 ∙ ap p (same_signed-true x y s) ∙ k))) (λ i. i)
              (or_cases (same_signed x y) (has x S) h.0),
          h.1,
          λ z i q. h.2 z (there z i) q,
        )

-- the set has the same least ones as its members
least-set : (p q : Signed → Bool) (xs : List Signed) (o : Option Signed) → ((y : Signed) → p y ≡ q y) → IsLeast p xs o
    → IsLeast q (set_of xs) o
least-set p q xs None e h = λ y i. sym (e y) ∙ h y (sym (has-set_of y xs) ∙ i)
least-set p q xs (Some x) e h = (
  has-set_of x xs ∙ h.0,
  sym (e x)
      ∙ h.1,
  λ y i k. h.2 y (sym (has-set_of y xs) ∙ i) (e y ∙ k),
)

-- a choice is in a set exactly where it is in a list of its members
pub has_choice-same : (S R : List Signed) → ((z : Signed) → has z S ≡ has z R) → (o : Option (List (List Signed)))
    → has_choice S o ≡ has_choice R o
has_choice-same S R e None = refl
has_choice-same S R e (Some cs) = each cs where
  all : (C : List Signed) → every (λ x. has x S) C ≡ every (λ x. has x R) C
  all [] = refl
  all (x ∷ C) = ap₂ (λ a b. a && b) (e x) (all C)

  each : (cs : List (List Signed)) → some (λ C. every (λ x. has x S) C) cs ≡ some (λ C. every (λ x. has x R) C) cs
  each [] = refl
  each (C ∷ cs) = ap₂ (λ a b. a || b) (all C) (each cs)

has-split : (k : ℕ) (xs : List Signed) (y : Signed) → has y xs ≡ true → (has y (take k xs) ≡ true)
    ⊎ (has y (drop k xs) ≡ true)
has-split zero xs y h = inr h
has-split (suc k) [] y h = inl h
has-split (suc k) (x ∷ xs) y h =
    ⊎_elim (λ s. inl (or_left _ (has y (take k xs)) s))
    (λ i. ⊎_elim (λ a. inl (or_right (same_signed y x) (has y (take k xs)) a)) (λ b. inr b) (has-split k xs y i))
    (or_cases (same_signed y x) (has y xs) h)

has-drop : (k : ℕ) (xs : List Signed) (y : Signed) → has y (drop k xs) ≡ true → has y xs ≡ true
has-drop zero xs y h = h
has-drop (suc k) [] y h = h
has-drop (suc k) (x ∷ xs) y h = or_right (same_signed y x) (has y xs) (has-drop k xs y h)

module _ (P : List Position) (t : Kind) (xs : List Signed) (from : ℕ) (clean : is_clean P t (take from xs) ≡ true) where
  rises : is_rising (set_of xs) ≡ true
  rises = is_rising-add_all xs [] refl

  old_clean : (y : Signed) → has y (take from xs) ≡ true → (has (opposite y) (take from xs) ≡ false)
      × (is_wrong P t y ≡ false)
  old_clean y h =
      let (a, b) = and_parts (not (is_clash (take from xs) y)) (not (is_wrong P t y))
      (every-has (λ x. not (is_clash (take from xs) x) && not (is_wrong P t x)) (take from xs) y clean h) in
      (not-true _ a, not-true _ b)

  -- a clash has a new member
  new_clash : (y : Signed) → has y xs ≡ true → is_clash xs y ≡ true → (has y (drop from xs) ≡ true)
      ⊎ (has (opposite y) (drop from xs) ≡ true)
  new_clash y i c =
      ⊎_elim (λ a. ⊎_elim (λ b. absurd (true≢false (sym b ∙ (old_clean y a).0))) (λ b. inr b)
      (has-split from xs (opposite y) c)) (λ a. inl a) (has-split from xs y i)

  back : (y : Signed) → has y xs ≡ true → is_clash xs (opposite y) ≡ true
  back y i = subst (λ z. has z xs ≡ true) (sym (opposite-opposite y)) i

  pub none_clash : IsLeast (is_clash xs) (drop from xs) None → (y : Signed) → has y xs ≡ true → is_clash xs y ≡ false
  none_clash h y i = false_from_ne_true _ (λ c.
      ⊎_elim (λ a. true≢false (sym c ∙ h y a)) (λ a. true≢false (sym (back y i) ∙ h (opposite y) a)) (new_clash y i c))

  positions : (x y : Signed) → order_of x ≤ order_of y → position_of x ≤ position_of y
  positions (Plus p) (Plus q) l = omega (arith, l)
  positions (Plus p) (Minus q) l = omega (arith, l)
  positions (Minus p) (Plus q) l = omega (arith, l)
  positions (Minus p) (Minus q) l = omega (arith, l)

  position-opposite : (y : Signed) → position_of (opposite y) ≡ position_of y
  position-opposite (Plus p) = refl
  position-opposite (Minus p) = refl

  plus_before : (p : ℕ) (y : Signed) → p ≤ position_of y → order_of (Plus p) ≤ order_of y
  plus_before p (Plus q) l = omega (arith, l)
  plus_before p (Minus q) l = omega (arith, l)

  least_clash : (x : Signed) → IsLeast (is_clash xs) (drop from xs) (Some x)
      → IsLeast (is_clash xs) xs (Some (Plus (position_of x)))
  least_clash x h = (
    (both x (has-drop from xs x h.0) h.1).0,
    (both x (has-drop from xs x h.0) h.1).1,
    λ y i c. plus_before (position_of x) y (⊎_elim (λ a. positions x y (h.2 y a c))
        (λ a. omega (arith, positions x (opposite y) (h.2 (opposite y) a (back y i)), position-opposite y))
        (new_clash y i c)),
  ) where
    both : (x : Signed) → has x xs ≡ true → has (opposite x) xs ≡ true → (has (Plus (position_of x)) xs ≡ true)
        × (has (Minus (position_of x)) xs ≡ true)
    both (Plus p) a b = (a, b)
    both (Minus p) a b = (b, a)

  same_clash : (y : Signed) → is_clash xs y ≡ has (opposite y) (set_of xs)
  same_clash y = sym (has-set_of (opposite y) xs)

  first_clash : (o : Option Signed) → IsLeast (is_clash xs) xs o
      → first (λ x. has (opposite x) (set_of xs)) (set_of xs) ≡ o
  first_clash o h = first-least _ (set_of xs) o rises (least-set (is_clash xs) _ xs o same_clash h)

  abbrev after_wrong : Step
  after_wrong = step_at (λ x. Rule x (choice_list (choices P t x)))
      (first (λ x. not (has_choice (set_of xs) (choices P t x))) (set_of xs)) (Saturated (set_of xs))

  abbrev after_clash : Step
  after_clash = step_at Wrong (first (is_wrong P t) (set_of xs)) after_wrong

  pub next-clash : (x : Signed) → IsLeast (is_clash xs) (drop from xs) (Some x)
      → Clash (position_of x) ≡ next P t (set_of xs)
  next-clash x h = ap (λ o. step_at (λ y. Clash (position_of y)) o after_clash)
      (sym (first_clash (Some (Plus (position_of x))) (least_clash x h)))

  least_wrong : (x : Signed) → IsLeast (is_wrong P t) (drop from xs) (Some x) → IsLeast (is_wrong P t) xs (Some x)
  least_wrong x h = (
    has-drop from xs x h.0,
    h.1,
    λ y i w.
        ⊎_elim (λ a. absurd (true≢false (sym w ∙ (old_clean y a).1))) (λ a. h.2 y a w) (has-split from xs y i),
  )

  pub none_wrong : IsLeast (is_wrong P t) (drop from xs) None → (y : Signed) → has y xs ≡ true → is_wrong P t y ≡ false
  none_wrong h y i = ⊎_elim (λ a. (old_clean y a).1) (λ a. h y a) (has-split from xs y i)

  first_wrong : (o : Option Signed) → IsLeast (is_wrong P t) xs o → first (is_wrong P t) (set_of xs) ≡ o
  first_wrong o h = first-least _ (set_of xs) o rises (least-set (is_wrong P t) _ xs o (λ y. refl) h)

  pub next-wrong : (x : Signed) → IsLeast (is_clash xs) (drop from xs) None
      → IsLeast (is_wrong P t) (drop from xs) (Some x)
      → Wrong x ≡ next P t (set_of xs)
  next-wrong x c w =
      ap₂ (λ o q. step_at (λ y. Clash (position_of y)) o (step_at Wrong q after_wrong))
      (sym (first_clash None (none_clash c))) (sym (first_wrong (Some x) (least_wrong x w)))

  abbrev lacks_choice : Signed → Bool
  lacks_choice y = not (has_choice xs (choices P t y))

  first_rule : (o : Option Signed) → IsLeast lacks_choice xs o
      → first (λ x. not (has_choice (set_of xs) (choices P t x))) (set_of xs) ≡ o
  first_rule o h =
      first-least _ (set_of xs) o rises
      (least-set lacks_choice _ xs o (λ y. ap not (has_choice-same xs (set_of xs) (λ z. sym (has-set_of z xs))
      (choices P t y))) h)

  unfolded : (r : Option Signed) → IsLeast (is_clash xs) (drop from xs) None
      → IsLeast (is_wrong P t) (drop from xs) None → IsLeast lacks_choice xs r
      → step_at (λ x. Rule x (choice_list (choices P t x))) r (Saturated (set_of xs)) ≡ next P t (set_of xs)
  unfolded r c w h =
      ap (λ q. step_at (λ x. Rule x (choice_list (choices P t x))) q (Saturated (set_of xs))) (sym (first_rule r h))
      ∙ ap₂ (λ o q. step_at (λ y. Clash (position_of y)) o (step_at Wrong q
      (step_at (λ x. Rule x (choice_list (choices P t x)))
      (first (λ x. not (has_choice (set_of xs) (choices P t x))) (set_of xs)) (Saturated (set_of xs)))))
      (sym (first_clash None (none_clash c))) (sym (first_wrong None (none_wrong w)))

  pub next-rule : (x : Signed) → IsLeast (is_clash xs) (drop from xs) None → IsLeast (is_wrong P t) (drop from xs) None
      → IsLeast lacks_choice xs (Some x)
      → Rule x (choice_list (choices P t x)) ≡ next P t (set_of xs)
  next-rule x c w h = unfolded (Some x) c w h

  pub next-saturated : IsLeast (is_clash xs) (drop from xs) None → IsLeast (is_wrong P t) (drop from xs) None
      → IsLeast lacks_choice xs None
      → Saturated (set_of xs) ≡ next P t (set_of xs)
  next-saturated c w h = unfolded None c w h

  -- without a clash or a wrong literal among the new members the set is clean
  pub all_clean : IsLeast (is_clash xs) (drop from xs) None → IsLeast (is_wrong P t) (drop from xs) None
      → is_clean P t xs ≡ true
  all_clean c w = has-every _ xs (λ y i. and_from _ _ (not_from_false _ (none_clash c y i))
      (not_from_false _ (none_wrong w y i)))
