-- Tests of the elements of a list, as Bools that compute.
use Rattle.std.specs.Prelude.{ℕ, List, [], ◌∷◌, Bool, true, false, ◌&&◌, ◌||◌, cond, nat_eq, nat_lt}

abbrev pub every : {A : Type 0} → (A → Bool) → List A → Bool
every p [] = true
every p (x ∷ xs) = p x && every p xs

abbrev pub some : {A : Type 0} → (A → Bool) → List A → Bool
some p [] = false
some p (x ∷ xs) = p x || some p xs

-- the same scalar values in the same order
abbrev pub same_word : List ℕ → List ℕ → Bool
same_word [] [] = true
same_word (x ∷ xs) (y ∷ ys) = nat_eq x y && same_word xs ys
same_word _ _ = false

-- by scalar value, a prefix first
abbrev pub comes_before : List ℕ → List ℕ → Bool
comes_before [] [] = false
comes_before [] (y ∷ ys) = true
comes_before (x ∷ xs) [] = false
comes_before (x ∷ xs) (y ∷ ys) = cond (nat_eq x y) (comes_before xs ys) (nat_lt x y)

-- a Unicode scalar value: a code point that is no surrogate
abbrev pub is_scalar : ℕ → Bool
is_scalar c = nat_lt c 55296 || (nat_lt 57343 c && nat_lt c 1114112)
