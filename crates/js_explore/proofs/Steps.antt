-- Steps of a search: one after another, and when they end.
use Rattle.std.proofs.Common.{◌≡◌, ℕ, zero, suc, ◌+◌, ◌-◌, ◌≤◌, List, [], ◌∷◌, true, cond, nat_lt, Option, Some, None, slice_get, refl, ap, sym, ◌∙◌, arith}
use Rattle.goals.specs.Signed.{Signed}
use Rattle.alternatives.specs.Alternative.{named, places}
use Rattle.alternatives.specs.Limit.{LimitKind, Total}
use Rattle.alternatives.specs.Expansion.{Expansion, first_limit}
use Rattle.search.specs.Explored.{Found, found, mention_goals, take_answer, take_goal, step, after, explored}

module _ (most total : ℕ) where
  -- an answer that passes the limit on places
  pub passed : (s : Found) (x : Expansion) → nat_lt total (s.places + places x.alternatives) ≡ true
      → take_answer most total s x ≡ found s.goals s.taken s.places (first_limit s.over Total)
  passed s x e = ap (λ b. cond b (found s.goals s.taken s.places (first_limit s.over Total))
      (let t = mention_goals most s (named x.alternatives) in
      found t.goals (suc t.taken) (t.places + places x.alternatives) t.over)) e

  first_twice : (o : Option LimitKind) → first_limit (first_limit o Total) Total ≡ first_limit o Total
  first_twice None = refl
  first_twice (Some k) = refl

  module _ (expansion : List Signed → Expansion) where
    pub step_is : (s : Found) (g : List Signed) → slice_get s.goals s.taken ≡ Some g
        → take_answer most total s (expansion g) ≡ step most total expansion s
    step_is s g e = sym (ap (take_goal most total expansion s) e)

    pub rests : (s : Found) → slice_get s.goals s.taken ≡ None → step most total expansion s ≡ s
    rests s e = ap (take_goal most total expansion s) e

    -- a step past the limit on places is repeated by the next one
    pub stops : (s now : Found) (g : List Signed) → slice_get s.goals s.taken ≡ Some g
        → nat_lt total (s.places + places (expansion g).alternatives) ≡ true
        → now ≡ take_answer most total s (expansion g) → step most total expansion now ≡ now
    stops s now g at e f =
        let t = found s.goals s.taken s.places (first_limit s.over Total) in
        let same : now ≡ t = f ∙ passed s (expansion g) e in
        ap (step most total expansion) same ∙ sym (step_is t g at) ∙ passed t (expansion g) e
        ∙ ap (found s.goals s.taken s.places) (first_twice s.over) ∙ sym same

    same_turn : (m n : ℕ) (s : Found) → m ≡ n → after most total expansion m s ≡ after most total expansion n s
    same_turn m n s e = ap (λ k. after most total expansion k s) e

    pub after_step : (n : ℕ) (s now next : Found) → now ≡ after most total expansion n s
        → next ≡ step most total expansion now → next ≡ after most total expansion (n + 1) s
    after_step n s now next e f = f ∙ ap (step most total expansion) e ∙ same_turn (suc n) (n + 1) s (omega arith)

    stays : (k n : ℕ) (s : Found)
        → step most total expansion (after most total expansion n s) ≡ after most total expansion n s
        → after most total expansion (k + n) s ≡ after most total expansion n s
    stays zero n s e = same_turn (zero + n) n s (omega arith)
    stays (suc k) n s e =
        same_turn (suc k + n) (suc (k + n)) s (omega arith) ∙ ap (step most total expansion) (stays k n s e) ∙ e

    -- what a step leaves is the last
    pub after_all : (m n : ℕ) (s now : Found) → n ≤ m → now ≡ after most total expansion n s
        → step most total expansion now ≡ now → now ≡ after most total expansion m s
    after_all m n s now l e f =
        e ∙ sym (stays (m - n) n s (ap (step most total expansion) (sym e) ∙ f ∙ e))
        ∙ same_turn (m - n + n) m s (omega (arith, l))

    -- a search that began with the root alone, after all turns
    pub finished : (root : List Signed) (first now last : Found) → first ≡ found (root ∷ []) 0 0 None
        → now ≡ after most total expansion most first → last ≡ now → last ≡ explored most total expansion root
    unfolding explored
    finished root first now last e f h = h ∙ f ∙ ap (after most total expansion most) e
