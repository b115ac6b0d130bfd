-- What a list of branches stands for.
use Rattle.std.specs.Prelude.{◌≡◌, ℕ, suc, List, [], ◌∷◌, map, true, ⊤}
use Rattle.std.specs.List.{AllByRecursion}
use Rattle.documents.specs.Kind.{Kind}
use Rattle.positions.specs.Position.{Position}
use Rattle.goals.specs.Signed.{Signed, is_rising}
use Rattle.goals.specs.Goal.{contains}
use Rattle.goal_laws.specs.Saturated.{IsSaturated}
use Rattle.js_algebra.specs.declared.node.JsonKind.{JsonKind}
use Rattle.js_tableau.specs.declared.branch_list.Branch.{Branch}

-- the most ends that a tree may have
abbrev pub most_ends : ℕ
most_ends = 16384

abbrev pub sets_of : List Branch → List (List Signed)
sets_of bs = map (λ b. b.set) bs

-- the branches have the kind, and the numbers from n on
abbrev pub AreNumbered : JsonKind → ℕ → List Branch → Type 0
AreNumbered k n [] = ⊤
AreNumbered k n (b ∷ bs) = (b.id.kind ≡ k) × (b.id.number ≡ n) × AreNumbered k (suc n) bs

-- a rising list, saturated at the kind, with all that the goal has
pub record IsBranch (P : List Position) (t : Kind) (goal S : List Signed) : Type 0 where
  pub rising : is_rising S ≡ true
  pub saturated : IsSaturated P t S
  pub has_goal : contains S goal ≡ true

abbrev pub AreBranches : List Position → Kind → List Signed → List (List Signed) → Type 0
AreBranches P t goal Ss = AllByRecursion (IsBranch P t goal) Ss
