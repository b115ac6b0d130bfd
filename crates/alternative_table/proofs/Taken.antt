-- The goal that position 0 holds is taken.
use Rattle.std.proofs.Common.{◌≡◌, ℕ, ◌<◌, ◌&&◌, true, List, [], ◌∷◌, length, Some, nat_lt, refl, sym, subst}
use Rattle.std.proofs.lemmas.Bool.{and_from, lt-ltb}
use Rattle.positions.specs.Position.{Position, is_table}
use Rattle.goals.specs.Signed.{Signed, Plus, position_of}
use Rattle.goals.specs.Goal.{form}
use Rattle.expander_laws.specs.Expander.{takes}
use Rattle.expander_laws.proofs.Laws.{formed_taken}

-- in a table with a position, the expander takes the goal that is formed of +0 alone
pub first_taken : (T : List Position) (ranks : List ℕ) → is_table T ranks ≡ true → 0 < length T
    → (x : Signed) → x ≡ Plus 0 → (g : List Signed) → form T (x ∷ []) ≡ Some g → takes T ranks g ≡ true
first_taken T ranks table some x e g formed =
    formed_taken T ranks table some (x ∷ []) g formed
    (subst (λ y. (nat_lt (position_of y) (length T) && true) ≡ true) (sym e)
    (and_from (nat_lt 0 (length T)) true (lt-ltb 0 (length T) some) refl))
