-- Lists of positions, and their places.
use Rattle.std.proofs.Common.{◌≡◌, ℕ, zero, suc, ◌-◌, ◌<◌, List, [], ◌∷◌, ◌++◌, map, take, length, reverse, get_or, nat_lt, Bool, true, refl, ap, ◌∙◌, arith}
use Rattle.std.proofs.lemmas.Bool.{and_parts, ltb-true}
use Rattle.documents.specs.Tests.{every}
use Rattle.js_algebra.specs.declared.node.Pos.{Pos}
use Rattle.js_algebra.specs.View.{places}
use Rattle.std.proofs.lemmas.List.{reverse-append}

places-push : (w : List Pos) (p : Pos) → places (w ++ p ∷ []) ≡ places w ++ p.0 ∷ []
places-push [] p = refl
places-push (x ∷ w) p = ap (λ xs. x.0 ∷ xs) (places-push w p)

-- the last one comes first
pub reverse_places-push : (w v : List Pos) (p : Pos) → v ≡ w ++ p ∷ [] → reverse (places v) ≡ p.0 ∷ reverse (places w)
reverse_places-push w v p e =
    ap (λ xs. reverse (places xs)) e ∙ ap reverse (places-push w p) ∙ reverse-append (places w) (p.0 ∷ [])

-- what gives none is empty
pub none-left : (w v : List Pos) (n : ℕ) → w ≡ v ++ [] → v ≡ take (n - 1) w → n ≡ 0 → reverse (places w) ≡ []
none-left w v n e f z =
    let none : n - 1 ≡ 0 = omega (arith, z) in
    let empty : v ≡ [] = f ∙ ap (λ k. take k w) none in
    ap (λ xs. reverse (places xs)) (e ∙ ap (λ xs. xs ++ []) empty)

-- at an index

-- what a function makes of the element at a place is at that place of the mapped list
pub at-map : {A : Type 0} (f : A → ℕ) (xs : List A) (i : ℕ) (d : A) → i < length xs
    → f (get_or xs i d) ≡ get_or (map f xs) i 0
at-map f [] i d l = absurd (omega (arith, l))
at-map f (x ∷ xs) zero d l = refl
at-map f (x ∷ xs) (suc i) d l = at-map f xs i d (omega (arith, l))

pub every-at : {A : Type 0} (f : A → ℕ) (p : ℕ → Bool) (xs : List A) (i : ℕ) (d : A) → every p (map f xs) ≡ true
    → i < length xs → p (f (get_or xs i d)) ≡ true
every-at f p [] i d h l = absurd (omega (arith, l))
every-at f p (x ∷ xs) zero d h l = (and_parts (p (f x)) (every p (map f xs)) h).0
every-at f p (x ∷ xs) (suc i) d h l =
    every-at f p xs i d (and_parts (p (f x)) (every p (map f xs)) h).1 (omega (arith, l))

-- where all positions are below n, that at a place is
pub inside-at : {A : Type 0} (f : A → ℕ) (n : ℕ) (xs : List A) (i : ℕ) (d : A)
    → every (λ q. nat_lt q n) (map f xs) ≡ true → i < length xs → f (get_or xs i d) < n
inside-at f n xs i d h l = ltb-true (f (get_or xs i d)) n (every-at f (λ q. nat_lt q n) xs i d h l)
