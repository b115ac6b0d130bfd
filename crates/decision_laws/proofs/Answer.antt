-- What `decision` answers, at the limits of the search.
use Rattle.std.proofs.Common.{◌≡◌, ℕ, ◌<◌, ◌≤◌, List, length, None, Ok, arith}
use Rattle.documents.specs.Kind as K
use Rattle.positions.specs.Position.{Position}
use Rattle.positions.specs.Holds.{IsTable}
use Rattle.goals.specs.Signed.{Signed}
use Rattle.goal_laws.specs.Saturated.{IsSaturated}
use Rattle.cells.specs.Cells.{Cells}
use Rattle.alternatives.specs.Alternative.{Number, Text}
use Rattle.alternatives.specs.Limit.{Goals, most_goals, most_total}
use Rattle.expansions.specs.Leaves.{Finders, words_of}
use Rattle.expansion_laws.proofs.Leaf.{IsFinder}
use Rattle.expansion_laws.proofs.Containers.{IsCells}
use Rattle.decisions.specs.Decision.{Limit, decision}
use Rattle.decisions.specs.Meaning.{Means}
use Rattle.decision_laws.proofs.Few.{many_rise}
use Rattle.decision_laws.proofs.Decisions.{means, never_goals}

module _ (F : Finders) (T : List Position) (ok : IsTable T) (a b : ℕ) where
  -- where numbers, words and cells are found rightly, the verdict means what it says
  pub decision_means : IsFinder T K.Number (words_of F K.Number) Number F.numbers
      → IsFinder T K.Text (words_of F K.Text) (λ w. Text) F.strings
      → ((S : List Signed) → IsSaturated T K.Object S → (C : Cells) → F.cells S ≡ Ok C → IsCells T ok S C)
      → Means F T most_goals most_total a b (decision F T a b).verdict
  decision_means numbers strings cells = means F T most_goals most_total a b ok numbers strings cells (omega arith)

  -- ten positions have 59,049 goals at most
  pub small_table : a < length T → b < length T → length T ≤ 10 → (decision F T a b).verdict ≡ Limit Goals None → ⊥
  small_table a_in b_in l e =
      let m = many_rise (length T) 10 l in
      never_goals F T most_goals most_total a b ok a_in b_in (omega (arith, m)) e
