-- What is decided of two positions reports a limit by its count, and of a few positions never the limit on goals.
use Rattle.std.proofs.Common.{◌≡◌, ℕ, ◌<◌, ◌≤◌, Bool, true, false, cond, nat_lt, List, length, Option, Some, None, Result, Ok, Err, IfOk, slice_get, refl, sym, subst, arith}
use Rattle.documents.specs.Kind as K
use Rattle.positions.specs.Position.{Position, is_table}
use Rattle.positions.specs.Holds.{IsTable}
use Rattle.position_laws.proofs.Tables.{is_table-IsTable}
use Rattle.goals.specs.Signed.{Signed}
use Rattle.number_groups.specs.Outcome.{outcome}
use Rattle.number_groups.specs.Correct.{IsRight}
use Rattle.js_numbers.proofs.AnswerLaws.{is_right}
use Rattle.number_finder.specs.SetGroup.{number_group}
use Rattle.scalar_laws.proofs.Ready.{table-is_ready}
use Rattle.scalar_laws.proofs.Numbers.{numbers_finder}
use Rattle.alternatives.specs.Limit.{LimitKind, Goals, most_goals, most_total, most_candidates}
use Rattle.alternatives.specs.Expansion.{Expansion}
use Rattle.expansions.specs.Leaves.{words_of}
use Rattle.finder_laws.proofs.Names.{cells_found}
use Rattle.finder_laws.proofs.Strings.{string_finder}
use Rattle.search.specs.Explored.{Found, explored}
use Rattle.search.specs.Rounds.{hole_at, hole_of}
use Rattle.decisions.specs.Decision as D
use Rattle.decisions.specs.Decision.{Verdict, Document, Limit, NoDocument, decision}
use Rattle.decisions.specs.Meaning.{Means}
use Rattle.decision_laws.proofs.Answer.{decision_means, small_table}
use Rattle.js_expander.specs.Found.{finders, goal_expansion}
use Rattle.js_decide.specs.View.{decided_view}
use Rattle.js_decide.specs.Counted.{IsCounted}
use Rattle.js_decide.specs.declared.verdict.Decided.{Decided}
use Rattle.js_decide.proofs.GoalCounts.{goal_counted}
use Rattle.js_decide.proofs.AllCounts.{all_counted}
use Rattle.std.proofs.lemmas.Option.{same_Some}

-- the hole of a number is that of its goal
hole_at_goal : (expansion : List Signed → Expansion) (f : Found) (n : ℕ) (k : LimitKind) (g : List Signed)
    → slice_get f.goals n ≡ Some g → hole_of expansion f n ≡ Some k → (expansion g).hole ≡ Some k
hole_at_goal expansion f n k g at hole = go (nat_lt n f.taken) (slice_get f.goals n) at hole where
  go : (b : Bool) (o : Option (List Signed)) → o ≡ Some g → cond b (hole_at expansion f o) None ≡ Some k
      → (expansion g).hole ≡ Some k
  go true (Some h) p q = subst (λ z. (expansion z).hole ≡ Some k) (same_Some h g p) q
  go true None p q = cc
  go false o p q = cc

-- of two positions of a table
module _ (T : List Position) (ranks : List ℕ) (table : is_table T ranks ≡ true) (a b : ℕ) (a_in : a < length T)
    (b_in : b < length T) where
  ok : IsTable T
  ok = is_table-IsTable T ranks table (omega (arith, a_in))

  right : (S : List Signed) → IsRight most_candidates (number_group T S) (outcome most_candidates (number_group T S))
  right S =
      is_right most_candidates (number_group T S) (outcome most_candidates (number_group T S))
      (table-is_ready T ranks table S) refl

  counted : (v : Verdict) → Means (finders T) T most_goals most_total a b v → IsCounted T a b v
  counted (Document ps i) m = tt
  counted NoDocument m = tt
  counted (Limit k (Some g)) m =
      let (unmet, l) = m.holds in
      let f = explored most_goals most_total (goal_expansion T) m.root in
      goal_counted T right g k (hole_at_goal (goal_expansion T) f l.number k g l.at l.hole)
  counted (Limit k None) m =
      let (unmet, over, open_, kind) = m.holds in
      record {
        root = m.root;
        is_root = m.is_root;
        holds = all_counted most_goals most_total (goal_expansion T) m.root k over kind;
      }

  decision_counted : IsCounted T a b (decision (finders T) T a b).verdict
  decision_counted =
      counted (decision (finders T) T a b).verdict
      (decision_means (finders T) T ok a b (numbers_finder T ok right (words_of (finders T) K.Number))
      (string_finder T ok) (λ S full C e. cells_found T S ok C e))

  -- where an answer is the decision, it has what is proved of the decision
  module _ {E : Type 0} (r : Result Decided E)
      (told : IfOk r (λ d. decided_view d ≡ decision (finders T) T a b)) where
    abbrev IfTold : (D.Decided → Type 0) → Type 0
    IfTold P = IfOk r (λ d. P (decided_view d))

    if_told : (P : D.Decided → Type 0) → P (decision (finders T) T a b) → IfTold P
    if_told P p = go r told where
      go : (r : Result Decided E) → IfOk r (λ d. decided_view d ≡ decision (finders T) T a b)
          → IfOk r (λ d. P (decided_view d))
      go (Ok d) e = subst P (sym e) p
      go (Err x) e = tt

    -- a table of at most ten positions never leads to the limit on goals
    pub answer_small : length T ≤ 10 → IfOk r (λ d. (decided_view d).verdict ≡ Limit Goals None → ⊥)
    answer_small few =
        if_told (λ d. d.verdict ≡ Limit Goals None → ⊥) (small_table (finders T) T ok a b a_in b_in few)

    -- where a limit is returned, the count that it names is over its number
    pub answer_counted : IfOk r (λ d. IsCounted T a b (decided_view d).verdict)
    answer_counted = if_told (λ d. IsCounted T a b d.verdict) decision_counted
