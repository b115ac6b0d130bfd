-- Tests of all elements of lists that are put together.
use Rattle.std.proofs.Common.{◌≡◌, List, ◌++◌, Bool, true, ⊎_elim}
use Rattle.documents.specs.Tests.{every}
use Rattle.list_laws.proofs.Lists.{every_at, every_from, in_left, in_right, from_append}

-- a test that all of two lists pass is passed by all of them joined
pub every_joined : {A : Type 0} (p : A → Bool) (xs ys : List A) → every p xs ≡ true → every p ys ≡ true
    → every p (xs ++ ys) ≡ true
every_joined p xs ys h k =
    every_from p (xs ++ ys)
    (λ x i. ⊎_elim (λ l. every_at p x xs h l) (λ r. every_at p x ys k r) (from_append x xs ys i))

pub every-parts : {A : Type 0} (p : A → Bool) (xs ys : List A) → every p (xs ++ ys) ≡ true
    → (every p xs ≡ true) × (every p ys ≡ true)
every-parts p xs ys h = (
  every_from p xs (λ x i. every_at p x (xs ++ ys) h (in_left x xs ys i)),
  every_from p ys (λ x i. every_at p x (xs ++ ys) h (in_right x xs ys i)),
)
