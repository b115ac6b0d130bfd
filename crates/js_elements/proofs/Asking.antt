-- What literals require of elements is of the table.
use Rattle.std.proofs.Common.{◌≡◌, ℕ, zero, suc, ◌<◌, ◌≤◌, List, [], ◌∷◌, length, get_or, Bool, true, nat_lt, refl, arith, ap}
use Rattle.std.proofs.lemmas.Bool.{and_parts, and_from}
use Rattle.documents.specs.Tests.{every}
use Rattle.positions.specs.Position as P
use Rattle.positions.specs.Position.{Position, names_below}
use Rattle.goals.specs.Signed.{Signed, position_of}
use Rattle.frames.specs.ArrayFrame as A
use Rattle.frames.specs.ArrayFrame.{item_at}
use Rattle.js_algebra.specs.View.{places}
use Rattle.js_algebra.specs.declared.node.Pos.{Pos}

pub item-within : (ps : List Pos) (r i : ℕ) (p : Pos) → i < length ps → p ≡ get_or ps i p
    → p.0 ≡ item_at (places ps) r i
item-within [] r i p l e = absurd (omega (arith, l))
item-within (q ∷ ps) r zero p l e = ap (λ x. x.0) e
item-within (q ∷ ps) r (suc i) p l e = item-within ps r i p (omega (arith, l)) e

pub item-past : (ps : List Pos) (r i : ℕ) → length ps ≤ i → r ≡ item_at (places ps) r i
item-past [] r i l = refl
item-past (q ∷ ps) r zero l = absurd (omega (arith, l))
item-past (q ∷ ps) r (suc i) l = item-past ps r i (omega (arith, l))

item-below : (n : ℕ) (ps : List ℕ) (r i : ℕ) → nat_lt r n ≡ true → every (λ q. nat_lt q n) ps ≡ true
    → nat_lt (item_at ps r i) n ≡ true
item-below n [] r i a b = a
item-below n (p ∷ ps) r zero a b = (and_parts (nat_lt p n) _ b).0
item-below n (p ∷ ps) r (suc i) a b = item-below n ps r i a (and_parts (nat_lt p n) _ b).1

abbrev below : ℕ → List Signed → Bool
below n xs = every (λ x. nat_lt (position_of x) n) xs

module _ (n i : ℕ) where
  -- what a literal that holds requires of the element at a place names positions of the table alone
  pub plus_each-below : (Q : Position) → names_below n Q ≡ true → below n (A.plus_each i Q) ≡ true
  plus_each-below (P.Items ps r) e =
      let (a, b) = and_parts (nat_lt r n) _ e in and_from _ _ (item-below n ps r i a b) refl
  plus_each-below _ e = refl

  pub minus_serving-below : (Q : Position) → names_below n Q ≡ true → below n (A.minus_serving i Q) ≡ true
  minus_serving-below (P.Items ps r) e =
      let (a, b) = and_parts (nat_lt r n) _ e in and_from _ _ (item-below n ps r i a b) refl
  minus_serving-below _ e = refl
