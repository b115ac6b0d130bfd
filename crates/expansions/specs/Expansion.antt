-- The expansion of a goal: its alternatives in the order of kinds, branches and plans, and the first limit.
use Rattle.std.specs.Prelude.{ℕ, suc, List, [], ◌∷◌, flat_map, cond, nat_lt, Result, Err}
use Rattle.documents.specs.Kind.{Kind, all_kinds}
use Rattle.positions.specs.Position.{Position}
use Rattle.goals.specs.Signed.{Signed}
use Rattle.goals.specs.Tree as G
use Rattle.alternatives.specs.Limit.{LimitKind, Branches, most_ends}
use Rattle.alternatives.specs.Alternative.{Alternative}
use Rattle.alternatives.specs.Expansion.{Expansion, nothing, keep_all}

module _ (T : List Position) (leaf : Kind → ℕ → List Signed → Result (List Alternative) LimitKind) where
  -- branches by number
  abbrev pub from_branch : Kind → ℕ → List (List Signed) → List (Result (List Alternative) LimitKind)
  from_branch t k [] = []
  from_branch t k (S ∷ Ss) = leaf t k S ∷ from_branch t (suc k) Ss

  abbrev pub at_kind : List Signed → Kind → List (Result (List Alternative) LimitKind)
  at_kind g t = cond (nat_lt most_ends (G.ends (G.steps T t g))) (Err Branches ∷ [])
      (from_branch t 0 (G.branches (G.steps T t g)))

  unfoldable pub expansion : List Signed → Expansion
  expansion g = keep_all nothing (flat_map (at_kind g) all_kinds)
