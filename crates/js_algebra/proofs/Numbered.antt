-- Numbers in the order in which they came are kept as their signed positions.
use Rattle.std.proofs.Common.{◌≡◌, ℕ, zero, suc, ◌/◌, ◌%◌, ◌^◌, ◌<◌, Bool, true, false, ◌||◌, cond, if◌then◌else◌, nat_eq, nat_lt, List, [], ◌∷◌, ◌++◌, map, take, refl, arith, ap, ap₂, sym, ◌∙◌}
use Rattle.std.specs.List.{list_any}
use Rattle.std.proofs.lemmas.Bool.{eqb-true, eqb-false, and_parts, and_from}
use Rattle.indexmap.specs.IndexSet.{insert_key}
use Rattle.documents.specs.Tests.{every}
use Rattle.goals.specs.Signed.{Signed, has}
use Rattle.js_algebra.specs.Order.{order_of}
use Rattle.js_algebra.specs.View.{with_sign}
use Rattle.js_algebra.specs.Numbers.{signed_at, are_numbers}
use Rattle.js_algebra.specs.SignedSets.{with_member}
use Rattle.js_algebra.proofs.Orders.{order-same, same-order}

pub order_of-signed_at : (n : ℕ) → order_of (signed_at n) ≡ n
order_of-signed_at n = go (nat_eq (n % 2) 0) refl where
  go : (b : Bool) → nat_eq (n % 2) 0 ≡ b → order_of (with_sign b (n / 2)) ≡ n
  go true e = omega (arith, eqb-true (n % 2) 0 e)
  go false e = omega (arith, eqb-false (n % 2) 0 e)

pub signed_at-order_of : (x : Signed) → signed_at (order_of x) ≡ x
signed_at-order_of x = order-same _ _ (order_of-signed_at (order_of x))

-- a member is where its number is
pub has-numbers : (x : Signed) (ks : List ℕ) → list_any (nat_eq (order_of x)) ks ≡ has x (map signed_at ks)
has-numbers x [] = refl
has-numbers x (k ∷ ks) =
    ap₂ (λ a b. a || b)
    (ap (nat_eq (order_of x)) (sym (order_of-signed_at k)) ∙ sym (same-order x (signed_at k))) (has-numbers x ks)

map-put : (ks : List ℕ) (k : ℕ) → map signed_at (ks ++ k ∷ []) ≡ map signed_at ks ++ signed_at k ∷ []
map-put [] k = refl
map-put (j ∷ ks) k = ap (λ xs. signed_at j ∷ xs) (map-put ks k)

-- a number is put last, unless it is there
pub insert-with_member : (x : Signed) (ks : List ℕ)
    → map signed_at (insert_key nat_eq ks (order_of x)) ≡ with_member x (map signed_at ks)
insert-with_member x ks =
    go (list_any (nat_eq (order_of x)) ks)
    ∙ ap (λ b. cond b (map signed_at ks) (map signed_at ks ++ x ∷ [])) (has-numbers x ks)
  where
    go : (b : Bool) → map signed_at (if b then ks else (ks ++ order_of x ∷ []))
        ≡ cond b (map signed_at ks) (map signed_at ks ++ x ∷ [])
    go true = refl
    go false = map-put ks (order_of x) ∙ ap (λ y. map signed_at ks ++ y ∷ []) (signed_at-order_of x)

every-take : (p : ℕ → Bool) (k : ℕ) (ks : List ℕ) → every p ks ≡ true → every p (take k ks) ≡ true
every-take p zero ks e = refl
every-take p (suc k) [] e = refl
every-take p (suc k) (j ∷ ks) e =
    let (c, d) = and_parts (p j) (every p ks) e in and_from _ _ c (every-take p k ks d)

pub numbers-take : (k : ℕ) (ks : List ℕ) → are_numbers ks ≡ true → are_numbers (take k ks) ≡ true
numbers-take k ks e = every-take (λ m. nat_lt m (2 ^ 33)) k ks e

pub map-take : (k : ℕ) (ks : List ℕ) → map signed_at (take k ks) ≡ take k (map signed_at ks)
map-take zero ks = refl
map-take (suc k) [] = refl
map-take (suc k) (j ∷ ks) = ap (λ xs. signed_at j ∷ xs) (map-take k ks)
