-- What a set has, by its test and by its list.
use Rattle.std.proofs.Common.{◌≡◌, inl, inr, true, List, [], ◌∷◌, subst}
use Rattle.goals.specs.Signed.{Signed, has}
use Rattle.goal_laws.proofs.Signs.{has-here, has-there, has-cases}
use Rattle.list_laws.specs.In.{IsIn}

pub in_has : (x : Signed) (S : List Signed) → IsIn x S → has x S ≡ true
in_has x [] i = absurd i
in_has x (y ∷ S) (inl e) = subst (λ z. has x (z ∷ S) ≡ true) e (has-here x S)
in_has x (y ∷ S) (inr i) = has-there x y S (in_has x S i)

-- what a set has by its test is in its list
pub has_in : (x : Signed) (S : List Signed) → has x S ≡ true → IsIn x S
has_in x [] e = cc
has_in x (y ∷ S) e = elim (has-cases x y S e) [
  | inl q ↦ inl q
  | inr h ↦ inr (has_in x S h)
]
