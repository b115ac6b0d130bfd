-- One round after another.
use Rattle.std.proofs.Common.{◌≡◌, ℕ, suc, ◌≤◌, ◌<◌, List, [], length, take, get_or, ap, sym, ◌∙◌}
use Rattle.goals.specs.Signed.{Signed}
use Rattle.alternatives.specs.Expansion.{Expansion}
use Rattle.search.specs.Uses.{in_order}
use Rattle.js_explore.specs.Exploration.{Exploration, Explores}
use Rattle.js_waiting.specs.Counts.{uncounted}
use Rattle.js_waiting.specs.Marked.{marked, by_goal}
use Rattle.js_rounds.specs.State.{IsRoomy, AreRounds}
use Rattle.js_rounds.specs.Sorted.{IsSorted}
use Rattle.js_rounds.specs.Waking.{AreSame, IsTaken, Waking, firsts, among}
use Rattle.js_rounds.specs.declared.rounds.Rounds.{Rounds}
use Rattle.js_rounds.proofs.Taking.{firsts_are}
use Rattle.js_rounds.proofs.Rounding.{HasRun, ended, started, run_out, run_down}

-- the goals that were taken come before those that are put in order
pub still_taken : (e : Exploration) (from : ℕ) (s t : Rounds) → IsTaken e from s → AreSame s t
    → IsSorted from s.count s.order.items t.order.items → IsTaken e from t
still_taken e from s t h same sorted = record {
  waiting = same.waiting ∙ h.waiting
      ∙ ap (λ xs. marked (by_goal (among xs) e) (uncounted e)) (sym sorted.before);
  mentions = λ m l. ap (λ ms. get_or ms m []) same.mentions ∙ h.mentions m l;
}

module _ (X : List Signed → Expansion) (e : Exploration) (explores : Explores X e) (q from : ℕ) (s t : Rounds)
    (roomy : IsRoomy (length e.found.goals) s) (waking : Waking X e.found q (firsts s.waiting) s)
    (order : take from s.order.items ≡ in_order X e.found q) (low : from ≤ s.count) (taken : IsTaken e from s)
    (same : AreSame s t) (sorted : IsSorted from s.count s.order.items t.order.items) where
  pub has_run : HasRun X e.found (suc q) t
  has_run =
      ended X e.found q from (firsts s.waiting) s t roomy waking (firsts_are X e explores q from s taken order) low
      order same sorted

  order_before : take from t.order.items ≡ in_order X e.found q
  order_before = sorted.before ∙ order

  -- the next round begins
  pub next_begins : Waking X e.found (suc q) (firsts t.waiting) t
  next_begins =
      started X e.found q (firsts t.waiting) t has_run
      (firsts_are X e explores q from t (still_taken e from s t taken same sorted) order_before)

  -- no goal is new, or no goal is left
  pub none_new : from ≡ t.count → q < length e.found.goals → AreRounds X e.found t
  none_new all l =
      run_down X e.found q t l
      (sym has_run.at.order ∙ ap (λ n. take n t.order.items) (sym all) ∙ order_before) has_run

  pub none_left : length e.found.goals ≤ suc q → AreRounds X e.found t
  none_left l = run_out X e.found (suc q) t l has_run
