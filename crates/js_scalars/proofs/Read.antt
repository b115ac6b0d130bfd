-- One signed position more is read.
use Rattle.std.proofs.Common.{◌≡◌, ℕ, Bool, true, false, List, ◌∷◌, ap, ◌∙◌, refl}
use Rattle.positions.specs.Position.{Position, position_at}
use Rattle.goals.specs.Signed.{Signed}
use Rattle.number_groups.specs.Group.{Group}
use Rattle.number_finder.specs.SetGroup.{ask_at, group_of, both, number_group}
use Rattle.scalar_laws.proofs.Both.{both-assoc}
use Rattle.js_algebra.specs.View.{with_sign}
use Rattle.js_scalars.specs.SoFar.{asked}

asked-ask_at : (T : List Position) (b : Bool) (p : ℕ) → asked b (position_at T p) ≡ ask_at T (with_sign b p)
asked-ask_at T true p = refl
asked-ask_at T false p = refl

-- a set's group is the same, whether its first literal is joined before or with the others
pub read_one : (T : List Position) (old new : Group) (b : Bool) (p : ℕ) (P : Position) (S : List Signed)
    → P ≡ position_at T p → new ≡ both old (group_of (asked b P))
    → both new (number_group T S) ≡ both old (number_group T (with_sign b p ∷ S))
read_one T old new b p P S h e =
    ap (λ g. both g (number_group T S)) e ∙ both-assoc old (group_of (asked b P)) (number_group T S)
    ∙ ap (λ a. both old (both (group_of a) (number_group T S))) (ap (asked b) h ∙ asked-ask_at T b p)
