-- The least number above all numbers that a part names: what falls as unsharing goes down.
use Rattle.std.proofs.Common.{◌≡◌, ℕ, zero, suc, ◌<◌, ◌≤◌, max, List, [], ◌∷◌, map, length, get_or, true, nat_lt, refl, subst, arith}
use Rattle.std.proofs.lemmas.Bool.{and_parts, and_from, ltb-true, lt-ltb}
use Rattle.std.proofs.lemmas.List.{get_or-map}
use Rattle.std.proofs.Math.ListN.{length-map}
use Rattle.documents.specs.Tests.{every}

pub above_all : List ℕ → ℕ
above_all [] = 0
above_all (i ∷ is) = max (suc i) (above_all is)

-- numbers below n
pub above_all-below : (n : ℕ) (is : List ℕ) → every (λ i. nat_lt i n) is ≡ true → above_all is ≤ n
unfolding above_all
above_all-below n [] h = omega arith
above_all-below n (i ∷ is) h =
    let both = and_parts (nat_lt i n) (every (λ j. nat_lt j n) is) h in
    let first = ltb-true i n both.0 in
    let rest = above_all-below n is both.1 in
    omega (arith, first, rest)

-- each of them is below
below-above_all : (is : List ℕ) (k d : ℕ) → k < length is → get_or is k d < above_all is
unfolding above_all
below-above_all [] k d l = absurd (omega arith)
below-above_all (i ∷ is) zero d l = omega arith
below-above_all (i ∷ is) (suc k) d l = let rest = below-above_all is k d (omega arith) in omega (arith, rest)

pub mapped-above_all : {A : Type 0} (f : A → ℕ) (xs : List A) (is : List ℕ) (k : ℕ) (d : A) → map f xs ≡ is
    → k < length xs → f (get_or xs k d) < above_all is
mapped-above_all f xs is k d e l =
    let inside : k < length (map f xs) = rw length-map l in
    let less = below-above_all (map f xs) k 0 inside in
    let same = get_or-map f xs k d 0 l in
    subst (λ js. f (get_or xs k d) < above_all js) e (subst (λ n. n < above_all (map f xs)) same less)

-- numbers below n are below more
pub every-more : (n m : ℕ) (is : List ℕ) → n ≤ m → every (λ i. nat_lt i n) is ≡ true
    → every (λ i. nat_lt i m) is ≡ true
every-more n m [] le h = refl
every-more n m (i ∷ is) le h =
    let both = and_parts (nat_lt i n) (every (λ j. nat_lt j n) is) h in
    let first = ltb-true i n both.0 in
    and_from (nat_lt i m) (every (λ j. nat_lt j m) is) (lt-ltb i m (omega (arith, first, le)))
    (every-more n m is le both.1)
