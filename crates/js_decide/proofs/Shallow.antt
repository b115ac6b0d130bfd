-- A document that meets the root is no deeper than the first round that has the root, nor than the last one that added
-- a goal.
use Rattle.std.proofs.Common.{◌≡◌, ℕ, ◌≤◌, List, length, Some, None, Result, Ok, Err, IfOk, ap, sym, ◌∙◌, subst, arith}
use Rattle.positions.specs.Position.{Position}
use Rattle.goals.specs.Signed.{Signed}
use Rattle.alternatives.specs.Limit.{most_goals, most_total}
use Rattle.alternatives.specs.Expansion.{Expansion}
use Rattle.search.specs.Explored.{Found, explored}
use Rattle.search.specs.Rounds.{round}
use Rattle.search.specs.Uses.{satisfied, last_round}
use Rattle.search_laws.proofs.Answers.{Least, answer_least, last_answer, last_least, before_too}
use Rattle.decisions.specs.Decision.{Verdict, Document, Limit, NoDocument, of_root, root_of}
use Rattle.js_expander.specs.Found.{finders, goal_expansion, cells_at}
use Rattle.expander_laws.specs.Expander.{words_by}
use Rattle.js_decide.specs.View.{decided_view}
use Rattle.js_decide.specs.MeetsRoot.{MeetsRoot}
use Rattle.js_decide.specs.Shallow.{IsFirstRound, IsShallow}
use Rattle.js_decide.specs.declared.verdict.Decided.{Decided}

-- the round of an answer is the first one that has the goal
first_round : (expansion : List Signed → Expansion) (f : Found) (k i : ℕ) → satisfied expansion f 0 ≡ Some (k, i)
    → IsFirstRound expansion f k
first_round expansion f k i e =
    let l : Least expansion f (length f.goals) 0 k i = answer_least expansion f (length f.goals) 0 k i e in
    record {
      has = ap (λ z. round expansion f z 0) l.is ∙ l.enters.has;
      before = λ q j. before_too expansion f q l.q 0 (omega (arith, j, l.is)) l.enters.before;
    }

-- and no round after the last one that adds a goal
answer_within : (expansion : List Signed → Expansion) (f : Found) (k i : ℕ) → satisfied expansion f 0 ≡ Some (k, i)
    → k ≤ last_round expansion f
answer_within expansion f k i e =
    let same = last_answer expansion f (length f.goals) 0 (last_least expansion f (length f.goals)) in
    let l : Least expansion f (last_round expansion f) 0 k i =
    answer_least expansion f (last_round expansion f) 0 k i (sym same ∙ e) in
    l.within

module _ (T : List Position) (a b : ℕ) where
  -- so is each document of a verdict on the root
  root_shallow : (root : List Signed) → root_of T a b ≡ Some root → (v : Verdict) (rounds : ℕ)
      → rounds ≡ last_round (goal_expansion T) (explored most_goals most_total (goal_expansion T) root)
      → MeetsRoot T (goal_expansion T) (explored most_goals most_total (goal_expansion T) root) v
      → IsShallow (finders T) T most_goals most_total a b v rounds
  root_shallow root is_root (Document ps i) rounds last m =
      let f = explored most_goals most_total (goal_expansion T) root in
      record {
        told = omega (
          arith,
          last,
          m.meets.shallow,
          answer_within (goal_expansion T) f m.round m.alternative m.answer,
        );
        first = record {
          root = root;
          is_root = is_root;
          holds = (
            m.round,
            first_round (goal_expansion T) f m.round m.alternative m.answer,
            m.meets.shallow,
          );
        };
      }
  root_shallow root is_root (Limit k g) rounds last m = tt
  root_shallow root is_root NoDocument rounds last m = tt

  module _ {E : Type 0} where
    -- an answer on a root, and one without a root
    pub answer_shallow : (root : List Signed) → root_of T a b ≡ Some root → (r : Result Decided E)
        → IfOk r (λ d. decided_view d
        ≡ of_root (words_by (cells_at T)) (goal_expansion T) most_goals most_total (Some root))
        → IfOk r (λ d. MeetsRoot T (goal_expansion T) (explored most_goals most_total (goal_expansion T) root)
        (decided_view d).verdict)
        → IfOk r (λ d. IsShallow (finders T) T most_goals most_total a b (decided_view d).verdict
        (decided_view d).rounds)
    answer_shallow root is_root (Ok d) e m =
        root_shallow root is_root (decided_view d).verdict (decided_view d).rounds (ap (λ x. x.rounds) e) m
    answer_shallow root is_root (Err x) e m = tt

    pub clash_shallow : (r : Result Decided E)
        → IfOk r (λ d. decided_view d ≡ of_root (words_by (cells_at T)) (goal_expansion T) most_goals most_total None)
        → IfOk r (λ d. IsShallow (finders T) T most_goals most_total a b (decided_view d).verdict
        (decided_view d).rounds)
    clash_shallow (Ok d) e =
        subst (λ x. IsShallow (finders T) T most_goals most_total a b x.verdict x.rounds) (sym e) tt
    clash_shallow (Err x) e = tt
