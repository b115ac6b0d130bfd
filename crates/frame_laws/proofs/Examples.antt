-- At most one element, one of them null, the first one a string; and the same with at most two.
use Rattle.std.specs.Prelude.{◌≡◌, ℕ, List, [], ◌∷◌, map, refl}
use Rattle.documents.specs.Kind.{Null, Text}
use Rattle.positions.specs.Position.{Position, True, Types, Items, Contains, CountMax}
use Rattle.goals.specs.Signed.{Signed, Plus}
use Rattle.goals.specs.Goal.{follow}
use Rattle.frames.specs.Frame.{Head, In}
use Rattle.frames.specs.Plan.{Over, Split, Complete, plan, plan_steps, complete, placed}
use Rattle.frames.specs.ArrayFrame.{array_frame}

table : ℕ → List Position
table n = Types (Text ∷ []) ∷ Types (Null ∷ []) ∷ Items (0 ∷ []) 3 ∷ True ∷ Contains 1 ∷ CountMax n ∷ []

set : List Signed
set = Plus 2 ∷ Plus 4 ∷ Plus 5 ∷ []

one : plan_steps (table 1) (array_frame (table 1) set)
    ≡ Split 2 ∷ Complete (plan ((Plus 4 ∷ []) ∷ []) []) ∷ Over ∷ []
unfolding table set plan_steps follow
one = refl

two : map (placed (array_frame (table 2) set)) (complete (plan_steps (table 2) (array_frame (table 2) set)))
    ≡ ((Head 0, Plus 4 ∷ []) ∷ []) ∷ ((Head 0, []) ∷ (In 0, Plus 4 ∷ []) ∷ []) ∷ []
unfolding table set plan_steps follow
two = refl
