-- Tests of the lists that references point to.
use Rattle.std.proofs.Common.{◌≡◌, ◌≤◌, suc, List, [], ◌∷◌, length, get_or, Bool, ◌||◌, ℤ, refl, ap, arith}
use Rattle.std.specs.Borrow.{Bor}
use Rattle.std.specs.List.{list_any}
use Rattle.js_numbers.specs.View.{lists_of}

pub list_any-lists_of : (p : List ℤ → Bool) (sets : List (Bor (List ℤ)))
    → list_any p (lists_of sets) ≡ list_any (λ s. p s.now) sets
list_any-lists_of p [] = refl
list_any-lists_of p (s ∷ sets) = ap (λ b. p s.now || b) (list_any-lists_of p sets)

-- the first list
pub lists_of-first : (sets : List (Bor (List ℤ))) (s d : Bor (List ℤ)) → 1 ≤ length sets → s ≡ get_or sets 0 d
    → s.now ≡ get_or (lists_of sets) 0 s.now
lists_of-first [] s d l e = absurd (omega arith)
lists_of-first (r ∷ sets) s d l e = ap (λ t. t.now) e

-- as many lists
pub length-lists_of : (sets : List (Bor (List ℤ))) → length (lists_of sets) ≡ length sets
length-lists_of [] = refl
length-lists_of (s ∷ sets) = ap suc (length-lists_of sets)
