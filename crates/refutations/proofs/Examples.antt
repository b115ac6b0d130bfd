-- Worked lines, each computed from the definitions. Rows and what follows them need all characters, and aren't
-- computed.
use Rattle.std.specs.Prelude.{◌≡◌, ℕ, zero, suc, List, [], ◌∷◌, flat_map, cond, true, false, Option, Some, None, pos, refl}
use Rattle.documents.specs.Kind.{Kind, Boolean, Number, Text, Array, Object, all_kinds, same_kind}
use Rattle.positions.specs.Position.{Position, False, All, Types, BoolIs, NumMin, NumMax, Items, Contains, CountMin, LengthMin, LengthMax, PropsMin, PropsMax}
use Rattle.goals.specs.Signed.{Signed, Plus}
use Rattle.goals.specs.Goal.{follow}
use Rattle.goals.specs.Tree.{steps}
use Rattle.certificate_lines.specs.Line as L
use Rattle.certificate_lines.specs.Line.{Line, Clashes, Cites, Kept, Ends}
use Rattle.refutations.specs.PlanTreeLines.{plan_lines}
use Rattle.refutations.specs.GoalLines.{goal_lines}
use Rattle.refutations.specs.Listing.{listed, certificate}

-- position 0 holds of the documents of one kind of which two other positions hold; position 4 holds of none
leaf_table : Kind → Position → Position → List Position
leaf_table t P Q = All (1 ∷ 2 ∷ 3 ∷ []) ∷ Types (t ∷ []) ∷ P ∷ Q ∷ False ∷ []

-- the goal of position 1 has a number
number : List Signed → Option ℕ
number (Plus (suc zero) ∷ []) = Some 7
number _ = None

printed : Kind → Position → Position → List Line
printed t P Q = goal_lines number (leaf_table t P Q) (Plus 0 ∷ [])

-- each other kind is wrong; at this one come these lines
trees : Kind → List Line → List Line
trees t ls =
    flat_map (λ u. L.At u ∷ L.Rule (Plus 0) ∷ cond (same_kind u t) ls (L.OfKind (Plus 1) ∷ [])) all_kinds

crossed_lengths : printed Text (LengthMin 2) (LengthMax 1) ≡ trees Text (L.Count ∷ [])
unfolding leaf_table printed trees goal_lines steps follow
crossed_lengths = refl

crossed_members : printed Object (PropsMin 2) (PropsMax 1) ≡ trees Object (L.Count ∷ [])
unfolding leaf_table printed trees goal_lines steps follow
crossed_members = refl

no_truth : printed Boolean (BoolIs true) (BoolIs false) ≡ trees Boolean (L.NoTruth ∷ [])
unfolding leaf_table printed trees goal_lines steps follow
no_truth = refl

no_number : printed Number (NumMin (pos 3)) (NumMax (pos 2)) ≡ trees Number (L.NoNumber ∷ [])
unfolding leaf_table printed trees goal_lines steps follow
no_number = refl

-- the list of each further element clashes
no_elements : printed Array (CountMin 1) (Items [] 4) ≡ trees Array (L.Arrays ∷ L.Short (Ends Clashes ∷ []) ∷ [])
unfolding leaf_table printed trees goal_lines steps plan_lines number follow
no_elements = refl

-- or its goal has a number
numbered_elements : printed Array (CountMin 1) (Items [] 1)
    ≡ trees Array (L.Arrays ∷ L.Short (Ends (Cites 7) ∷ []) ∷ [])
unfolding leaf_table printed trees goal_lines steps plan_lines number follow
numbered_elements = refl

-- a first element
clashing_first : printed Array (CountMin 1) (Items (4 ∷ []) 4) ≡ trees Array (L.Arrays ∷ L.OfIndex 0 Clashes ∷ [])
unfolding leaf_table printed trees goal_lines steps plan_lines number follow
clashing_first = refl

-- an option at the first place, and one behind it
split_plans : printed Array (Contains 1) (Items (0 ∷ []) 1)
    ≡ trees Array (L.Arrays ∷ L.Split ∷ L.Short (Ends (Cites 7) ∷ []) ∷ L.OfTail 0 (Cites 7) ∷ [])
unfolding leaf_table printed trees goal_lines steps plan_lines number follow
split_plans = refl

-- goals are listed as they are first cited, by lines of plans and by entries
cites : List Signed → List Line
cites (Plus zero ∷ []) = L.OfMember 0 (Cites 2) ∷ L.Count ∷ []
cites (Plus (suc (suc zero)) ∷ []) = L.Short (Kept ∷ Ends (Cites 0) ∷ Ends (Cites 1) ∷ []) ∷ []
cites _ = []

listed_goals : certificate ((Plus 0 ∷ []) ∷ (Plus 1 ∷ []) ∷ (Plus 2 ∷ []) ∷ []) cites
    ≡ L.Version ∷ L.Goals 3 ∷ L.Goal (Plus 0 ∷ []) ∷ L.Goal (Plus 2 ∷ []) ∷ L.Goal (Plus 1 ∷ [])
    ∷ L.Entry 0 ∷ L.OfMember 0 (Cites 1) ∷ L.Count
    ∷ L.Entry 1 ∷ L.Short (Kept ∷ Ends (Cites 0) ∷ Ends (Cites 2) ∷ [])
    ∷ L.Entry 2 ∷ L.End ∷ []
unfolding listed cites
listed_goals = refl
