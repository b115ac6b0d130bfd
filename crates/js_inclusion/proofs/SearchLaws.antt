-- A search stops at a limit exactly where it says so.
use Rattle.std.proofs.Common.{◌≡◌, ℕ, List, Option, Some, None, sym, subst}
use Rattle.positions.specs.Position.{Position}
use Rattle.goals.specs.Signed.{Signed}
use Rattle.alternatives.specs.Limit.{LimitKind, most_goals, most_total}
use Rattle.expansions.specs.Leaves.{Finders}
use Rattle.decisions.specs.Decision.{Limit, decision}
use Rattle.decisions.specs.Meaning.{Means}
use Rattle.decision_laws.proofs.Decisions.{RootSays, Decision, verdict_where}

-- at any limits
module _ (F : Finders) (T : List Position) (most most_places a b : ℕ) where
  stopped_at : (k : LimitKind) (o : Option (List Signed)) → Means F T most most_places a b (Limit k o)
      → (Decision F T most most_places a b).verdict ≡ Limit k o
  stopped_at k (Some g) x =
      verdict_where F T most most_places a b (Limit k (Some g))
      (subst (λ r. RootSays F T most most_places a b r (Limit k (Some g))) (sym x.is_root) x.holds)
  stopped_at k None x =
      let (unmet, over, open_, kind) = x.holds in
      verdict_where F T most most_places a b (Limit k None)
      (subst (λ r. RootSays F T most most_places a b r (Limit k None)) (sym x.is_root) (unmet, over, open_))

-- a search that stops as it says has that verdict
pub stopped : (F : Finders) (T : List Position) (a b : ℕ) (k : LimitKind) (o : Option (List Signed))
    → Means F T most_goals most_total a b (Limit k o) → (decision F T a b).verdict ≡ Limit k o
stopped F T a b k o x = stopped_at F T most_goals most_total a b k o x
