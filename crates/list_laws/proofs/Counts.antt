-- Counting lists of numbers by a key.
use Rattle.std.proofs.Common.{◌≡◌, ℕ, zero, suc, ◌+◌, ◌<◌, ◌≤◌, inl, inr, Bool, true, false, cond, nat_eq, List, [], ◌∷◌, filter, length, refl, ap, ◌∙◌, subst, arith}
use Rattle.std.proofs.lemmas.Bool.{eqb-true, eq-eqb}
use Rattle.list_laws.specs.In.{IsIn, Distinct}
use Rattle.list_laws.proofs.Pigeons.{length-without, without, in_without}

-- the sum of f over a list
abbrev pub sum_over : {A : Type 0} → (A → ℕ) → List A → ℕ
sum_over f [] = 0
sum_over f (x ∷ xs) = f x + sum_over f xs

abbrev pub up_from : ℕ → ℕ → List ℕ
up_from k zero = []
up_from k (suc n) = k ∷ up_from (suc k) n

pub subset_length : (xs ys : List ℕ) → Distinct xs → ((x : ℕ) → IsIn x xs → IsIn x ys) → length xs ≤ length ys
subset_length [] ys d h = omega arith
subset_length (x ∷ xs) ys d h =
    omega (
      arith,
      length-without x ys (h x (inl refl)),
      subset_length xs (without x ys) d.1
          (λ y i. in_without y x ys (h y (inr i)) (λ e. d.0 (subst (λ z. IsIn z xs) e i))),
    )

-- those whose key is c
abbrev pub with_key : (ℕ → ℕ) → ℕ → List ℕ → List ℕ
with_key key c [] = []
with_key key c (x ∷ xs) = cond (nat_eq (key x) c) (x ∷ with_key key c xs) (with_key key c xs)

pub from_with_key : (key : ℕ → ℕ) (c y : ℕ) (xs : List ℕ) → IsIn y (with_key key c xs) → IsIn y xs × (key y ≡ c)
from_with_key key c y [] i = absurd i
from_with_key key c y (x ∷ xs) i = go (nat_eq (key x) c) refl i (from_with_key key c y xs) where
  go : (b : Bool) → nat_eq (key x) c ≡ b → IsIn y (cond b (x ∷ with_key key c xs) (with_key key c xs))
      → (IsIn y (with_key key c xs) → IsIn y xs × (key y ≡ c)) → IsIn y (x ∷ xs) × (key y ≡ c)
  go true e (inl q) more = (inl q, ap key q ∙ eqb-true (key x) c e)
  go true e (inr i) more = (inr (more i).0, (more i).1)
  go false e i more = (inr (more i).0, (more i).1)

pub Distinct-with_key : (key : ℕ → ℕ) (c : ℕ) (xs : List ℕ) → Distinct xs → Distinct (with_key key c xs)
Distinct-with_key key c [] d = tt
Distinct-with_key key c (x ∷ xs) d = go (nat_eq (key x) c) (Distinct-with_key key c xs d.1) where
  go : (b : Bool) → Distinct (with_key key c xs) → Distinct (cond b (x ∷ with_key key c xs) (with_key key c xs))
  go true e = ((λ i. d.0 (from_with_key key c x xs i).0), e)
  go false e = e

abbrev pub keyed : (ℕ → ℕ) → List ℕ → List ℕ → ℕ
keyed key cs xs = sum_over (λ c. length (with_key key c xs)) cs

key_more : (key : ℕ → ℕ) (c x : ℕ) (xs : List ℕ) → length (with_key key c xs) ≤ length (with_key key c (x ∷ xs))
key_more key c x xs = go (nat_eq (key x) c) where
  go : (b : Bool) → length (with_key key c xs) ≤ length (cond b (x ∷ with_key key c xs) (with_key key c xs))
  go true = omega arith
  go false = omega arith

keyed_more : (key : ℕ → ℕ) (cs : List ℕ) (x : ℕ) (xs : List ℕ) → keyed key cs xs ≤ keyed key cs (x ∷ xs)
keyed_more key [] x xs = omega arith
keyed_more key (c ∷ cs) x xs = omega (arith, key_more key c x xs, keyed_more key cs x xs)

keyed_one : (key : ℕ → ℕ) (cs : List ℕ) (x : ℕ) (xs : List ℕ) → IsIn (key x) cs
    → suc (keyed key cs xs) ≤ keyed key cs (x ∷ xs)
keyed_one key [] x xs i = absurd i
keyed_one key (c ∷ cs) x xs (inl e) =
    let h : suc (length (with_key key c xs)) ≤ length (with_key key c (x ∷ xs)) =
    rw (eq-eqb (key x) c e) (omega arith) in
    omega (arith, h, keyed_more key cs x xs)
keyed_one key (c ∷ cs) x xs (inr i) = omega (arith, key_more key c x xs, keyed_one key cs x xs i)

-- each element is counted under its key
pub all_keyed : (key : ℕ → ℕ) (cs xs : List ℕ) → ((x : ℕ) → IsIn x xs → IsIn (key x) cs) → length xs ≤ keyed key cs xs
all_keyed key cs [] h = omega arith
all_keyed key cs (x ∷ xs) h =
    omega (arith, all_keyed key cs xs (λ y i. h y (inr i)), keyed_one key cs x xs (h x (inl refl)))

pub from_up_from : (k n x : ℕ) → IsIn x (up_from k n) → (k ≤ x) × (x < k + n)
from_up_from k zero x i = absurd i
from_up_from k (suc n) x (inl e) = (omega (arith, e), omega (arith, e))
from_up_from k (suc n) x (inr i) = let (a, b) = from_up_from (suc k) n x i in (omega arith, omega arith)

pub Distinct-up_from : (k n : ℕ) → Distinct (up_from k n)
Distinct-up_from k zero = tt
Distinct-up_from k (suc n) =
    ((λ i. let (a, b) = from_up_from (suc k) n k i in let f : ⊥ = omega arith in f), Distinct-up_from (suc k) n)

pub length-up_from : (k n : ℕ) → length (up_from k n) ≡ n
length-up_from k zero = refl
length-up_from k (suc n) = ap suc (length-up_from (suc k) n)

pub Distinct-filter : (p : ℕ → Bool) (xs : List ℕ) → Distinct xs → Distinct (filter p xs)
Distinct-filter p [] d = tt
Distinct-filter p (x ∷ xs) d = go (p x) (Distinct-filter p xs d.1) where
  from : (y : ℕ) (ys : List ℕ) → IsIn y (filter p ys) → IsIn y ys
  from y [] i = i
  from y (z ∷ ys) i = pick (p z) i (from y ys) where
    pick : (b : Bool) → IsIn y (cond b (z ∷ filter p ys) (filter p ys)) → (IsIn y (filter p ys) → IsIn y ys)
        → IsIn y (z ∷ ys)
    pick true (inl e) more = inl e
    pick true (inr i) more = inr (more i)
    pick false i more = inr (more i)

  go : (b : Bool) → Distinct (filter p xs) → Distinct (cond b (x ∷ filter p xs) (filter p xs))
  go true e = ((λ i. d.0 (from x xs i)), e)
  go false e = e
