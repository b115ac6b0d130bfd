-- A set of numbers in order is kept as the rising list of its signed positions.
use Rattle.std.proofs.Common.{◌≡◌, ℕ, suc, ◌^◌, ◌<◌, Bool, true, false, cond, nat_eq, nat_lt, Ordering, Less, Equal, Greater, List, [], ◌∷◌, map, refl, arith, ap, ap₂, sym, ◌∙◌, subst}
use Rattle.std.specs.Ordering.{nat_cmp, match_ordering, MatchOrdering}
use Rattle.std.specs.BTreeSet.{insert_key}
use Rattle.std.specs.BTreeMap.Range.{IsLtBy}
use Rattle.std.specs.List.{All}
use Rattle.std.proofs.lemmas.Bool.{eqb-true, lt-ltb, ltb-true, and_parts, and_from}
use Rattle.std.proofs.lemmas.Cmp.{ranked}
use Rattle.documents.specs.Tests.{every}
use Rattle.goals.specs.Signed.{Signed, same_signed, comes_before, add}
use Rattle.js_algebra.specs.Order.{order_of}
use Rattle.js_algebra.proofs.Orders.{before-order, same-order, lt_before}
use Rattle.js_algebra.specs.Numbers.{signed_at, are_numbers}
use Rattle.js_algebra.proofs.Numbered.{order_of-signed_at, signed_at-order_of}

-- an insertion adds the signed position
pub insert-add : (x : Signed) (ks : List ℕ) → map signed_at (insert_key nat_cmp ks (order_of x)) ≡ add x
    (map signed_at ks)
insert-add x [] = ap (λ y. y ∷ []) (signed_at-order_of x)
insert-add x (k ∷ ks) =
    go (nat_lt (order_of x) k) (nat_eq (order_of x) k) refl refl (insert-add x ks)
    ∙ ap₂ (λ s b. cond s (signed_at k ∷ map signed_at ks)
    (cond b (x ∷ signed_at k ∷ map signed_at ks) (signed_at k ∷ add x (map signed_at ks)))) (sym same) (sym before)
  where
    same : same_signed x (signed_at k) ≡ nat_eq (order_of x) k
    same = same-order x (signed_at k) ∙ ap (nat_eq (order_of x)) (order_of-signed_at k)

    before : comes_before x (signed_at k) ≡ nat_lt (order_of x) k
    before = before-order x (signed_at k) ∙ ap (nat_lt (order_of x)) (order_of-signed_at k)

    go : (l e : Bool) → nat_lt (order_of x) k ≡ l → nat_eq (order_of x) k ≡ e
        → map signed_at (insert_key nat_cmp ks (order_of x)) ≡ add x (map signed_at ks)
        → map signed_at (match_ordering (cond l Less (cond e Equal Greater)) (order_of x ∷ k ∷ ks) (k ∷ ks)
        (k ∷ insert_key nat_cmp ks (order_of x)))
        ≡ cond e (signed_at k ∷ map signed_at ks) (cond l (x ∷ signed_at k ∷ map signed_at ks)
        (signed_at k ∷ add x (map signed_at ks)))
    go true true a b more = absurd (omega (arith, ltb-true _ _ a, eqb-true _ _ b))
    go true false a b more = ap (λ y. y ∷ signed_at k ∷ map signed_at ks) (signed_at-order_of x)
    go false true a b more = refl
    go false false a b more = ap (λ S. signed_at k ∷ S) more

every-insert : (p : ℕ → Bool) (k : ℕ) (ks : List ℕ) → p k ≡ true → every p ks ≡ true
    → every p (insert_key nat_cmp ks k) ≡ true
every-insert p k [] a b = and_from _ _ a refl
every-insert p k (x ∷ ks) a b = go (nat_cmp k x) (and_parts (p x) (every p ks) b).0
    (every-insert p k ks a (and_parts (p x) (every p ks) b).1) where
      go : (o : Ordering) → p x ≡ true → every p (insert_key nat_cmp ks k) ≡ true
          → every p (match_ordering o (k ∷ x ∷ ks) (x ∷ ks) (x ∷ insert_key nat_cmp ks k)) ≡ true
      go Less h more = and_from _ _ a b
      go Equal h more = b
      go Greater h more = and_from _ _ h more

pub numbers-insert : (n : ℕ) (ks : List ℕ) → n < 2 ^ 33 → are_numbers ks ≡ true
    → are_numbers (insert_key nat_cmp ks n) ≡ true
numbers-insert n ks l e = every-insert (λ m. nat_lt m (2 ^ 33)) n ks (lt-ltb _ _ l) e

-- what is above a number comes before
pub before-above : (k : ℕ) (ks : List ℕ) → All (IsLtBy nat_cmp k) ks
    → every (comes_before (signed_at k)) (map signed_at ks) ≡ true
before-above k [] h = refl
before-above k (x ∷ ks) h =
    and_from _ _ (lt_before (signed_at k) (signed_at x)
    (omega (arith, order_of-signed_at k, order_of-signed_at x, below k x (h 0 x (omega arith)))))
    (before-above k ks (λ i d l. h (suc i) d (omega (arith, l))))
  where
    below : (a b : ℕ) → nat_cmp a b ≡ Less → a < b
    below a b e = ranked_less a b (ranked a b (nat_cmp a b) refl) e where
      ranked_less : (a b : ℕ) → MatchOrdering (nat_cmp a b) (a < b) (a ≡ b) (b < a) → nat_cmp a b ≡ Less → a < b
      ranked_less a b m e = subst (λ o. MatchOrdering o (a < b) (a ≡ b) (b < a)) e m
