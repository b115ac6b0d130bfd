-- The first value that passes a test, by its place.
use Rattle.std.proofs.Common.{◌≡◌, ℕ, zero, suc, ◌<◌, List, [], ◌∷◌, Bool, true, false, cond, Some, None, length, get_or, refl, ap, ◌∙◌, arith}
use Rattle.std.specs.List.{find}

-- what `find` answers at the front, by whether it passes
pub find-front : {X : Type 0} (p : X → Bool) (x : X) (xs : List X) (b : Bool) → p x ≡ b
    → find p (x ∷ xs) ≡ cond b (Some x) (find p xs)
find-front p x xs b e = ap (λ t. cond t (Some x) (find p xs)) e

-- at the first that passes
pub find-at : {X : Type 0} (p : X → Bool) (xs : List X) (i : ℕ) (d : X) → i < length xs
    → ((j : ℕ) → j < i → p (get_or xs j d) ≡ false)
    → p (get_or xs i d) ≡ true
    → find p xs ≡ Some (get_or xs i d)
find-at p [] i d l before h = absurd (omega arith)
find-at p (x ∷ xs) zero d l before h = find-front p x xs true h
find-at p (x ∷ xs) (suc i) d l before h =
    find-front p x xs false (before 0 (omega arith))
    ∙ find-at p xs i d (omega arith) (λ j m. before (suc j) (omega arith)) h

-- where no element passes, none is found
pub find-none : {X : Type 0} (p : X → Bool) (xs : List X) (d : X)
    → ((j : ℕ) → j < length xs → p (get_or xs j d) ≡ false)
    → find p xs ≡ None
find-none p [] d none = refl
find-none p (x ∷ xs) d none =
    find-front p x xs false (none 0 (omega arith)) ∙ find-none p xs d (λ j m. none (suc j) (omega arith))
