-- The first element that passes a test: it is in the list, and where there is none no element passes.
use Rattle.std.proofs.Common.{◌≡◌, suc, Bool, true, false, cond, List, [], ◌∷◌, Contains, Some, None, refl, subst, arith}
use Rattle.std.specs.List.{AllByRecursion}
use Rattle.goals.specs.Tree.{first}

-- the first element that passes is in the list and passes
pub first-some : {A : Type 0} (p : A → Bool) (xs : List A) (x : A) → first p xs ≡ Some x
    → Contains xs x × (p x ≡ true)
first-some p [] x e = cc
first-some p (y ∷ xs) x e = go (p y) refl e (first-some p xs x) where
  go : (b : Bool) → p y ≡ b → cond b (Some y) (first p xs) ≡ Some x
      → (first p xs ≡ Some x → Contains xs x × (p x ≡ true)) → Contains (y ∷ xs) x × (p x ≡ true)
  go true h e more = let same : y ≡ x = cc in ((0, omega arith, same), subst (λ z. p z ≡ true) same h)
  go false h e more = let ((k, l, same), i) = more e in ((suc k, omega arith, same), i)

-- where there is no first element that passes, none passes
pub first-none : {A : Type 0} (p : A → Bool) (xs : List A) → first p xs ≡ None
    → AllByRecursion (λ x. p x ≡ false) xs
first-none p [] e = tt
first-none p (x ∷ xs) e = go (p x) refl e (first-none p xs) where
  go : (b : Bool) → p x ≡ b → cond b (Some x) (first p xs) ≡ None
      → (first p xs ≡ None → AllByRecursion (λ y. p y ≡ false) xs)
      → (p x ≡ false) × AllByRecursion (λ y. p y ≡ false) xs
  go true h e more = cc
  go false h e more = (h, more e)
