-- Each round is put in order, and its goals are taken.
use Rattle.std.proofs.Common.{◌≡◌, ◌<◌, ◌≤◌, ◌+◌, ◌-◌, ℕ, suc, [], length, take, get_or, refl, ap, sym, ◌∙◌, subst, arith}
use Rattle.search.specs.Uses.{in_order}
use Rattle.js_explore.specs.ExploredView.{explored_view}
use Rattle.js_waiting.specs.Counts.{waiting, all_places}
use Rattle.js_waiting.proofs.Counting.{all_wait}
use Rattle.js_rounds.specs.State.{IsRoomy}
use Rattle.js_rounds.specs.Waking.{IsTaken, Waking, firsts}
use Rattle.js_rounds.specs.declared.rounds.Rounds.{Rounds}
use Rattle.js_rounds.proofs.Answered.{answered_most}
use Rattle.js_rounds.proofs.Taking.{none_taken, names_low, names_wait, taken_on}
use Rattle.js_rounds.proofs.Running.{still_taken, has_run, next_begins, none_new, none_left}
use Rattle.js_rounds.proofs.rounds.Rounds.run_all.Goals as goal

within : (n : ℕ) (r : Rounds) → IsRoomy n r → r.count ≤ length r.order.items
within n r h = let l = answered_most r.known.items in omega (arith, l, h.known, h.order, h.count)

pub loop-round-init : goal.loop-round-init
loop-round-init g c =
    let e = explored_view c.args.explored.now in
    let b = c.begin.ensures in
    let u = c.requires.uncounted in
    record {
      waking = λ X x. b.waking X e.found;
      order = λ X x. refl;
      roomy = b.roomy;
      low = omega arith;
      taken = none_taken e c.begin.new.self (record {
        waiting = b.waiting ∙ u.waiting;
        mentions = λ m l. ap (λ ms. get_or ms m []) b.mentions ∙ u.mentions m l;
      });
      steps = ap (λ n. c.args.steps.now + n) (ap waiting (b.waiting ∙ u.waiting) ∙ all_wait e);
    }

pub returns-then-from-to-clause-rounds : goal.returns-then-from-to-clause-rounds
returns-then-from-to-clause-rounds g c X x =
    let e = explored_view c.args.explored.now in
    let i = c.loop-round.invariant in
    let l = c.loop-round-test.true in
    let m = c.loop-round.auto.round in
    none_new X e x (c.loop-round.round - 1) c.loop-round.from c.loop-round.self c.sort.new.self i.roomy (i.waking X x)
    (i.order X x) i.low i.taken c.sort.ensures.same c.sort.ensures.sorted c.if-from-to.true
    (omega (arith, l, m, c.len-round-end.ensures))

pub loop-place-init : goal.loop-place-init
loop-place-init g c =
    let e = explored_view c.args.explored.now in
    let i = c.loop-round.invariant in
    let m = c.loop-round.auto.round in
    let s = c.loop-round.self in
    let t = c.sort.new.self in
    let q = c.loop-round.round - 1 in
    let next : suc q ≡ c.loop-round.round = omega (arith, m) in
    let o = c.sort.ensures in
    record {
      waking = λ X x. subst (λ k. Waking X e.found k (firsts t.waiting) t) next
          (next_begins X e x q c.loop-round.from s t i.roomy (i.waking X x) (i.order X x) i.low i.taken o.same
          o.sorted);
      order = λ X x. let h = has_run X e x q c.loop-round.from s t i.roomy (i.waking X x) (i.order X x) i.low i.taken
          o.same o.sorted in h.at.order ∙ ap (in_order X e.found) next;
      roomy = subst (λ n. IsRoomy n t) i.roomy.known o.roomy;
      low = omega arith;
      taken = still_taken e c.loop-round.from s t i.taken o.same o.sorted;
      steps = ap (λ w. c.loop-round.steps + waiting w) o.same.waiting ∙ i.steps;
    }

pub index-goal-requires : goal.index-goal-requires
index-goal-requires g c =
    let i = c.loop-place.invariant in
    let l = c.loop-place-test.true in
    let m = within _ c.loop-place.self i.roomy in
    grind (arith, l, m, i.low)

pub take_goal-requires-clause-goals : goal.take_goal-requires-clause-goals
take_goal-requires-clause-goals g c =
    let i = c.loop-place.invariant in
    let l = c.loop-place-test.true in
    names_low (explored_view c.args.explored.now) c.loop-place.self i.roomy c.loop-place.place i.taken
    (omega (arith, l, i.low)) (within _ c.loop-place.self i.roomy) c.index-goal.result.now c.index-goal.ensures

pub take_goal-requires-clause-waits : goal.take_goal-requires-clause-waits
take_goal-requires-clause-waits g c =
    let i = c.loop-place.invariant in
    let l = c.loop-place-test.true in
    names_wait (explored_view c.args.explored.now) c.loop-place.self i.roomy c.loop-place.place i.taken
    (omega (arith, l, i.low)) (within _ c.loop-place.self i.roomy) c.index-goal.result.now c.index-goal.ensures

pub loop-place-preserved : goal.loop-place-preserved
loop-place-preserved g c =
    let e = explored_view c.args.explored.now in
    let i = c.loop-place.invariant in
    let l = c.loop-place-test.true in
    let o = c.take_goal.ensures in
    record {
      waking = λ X x. o.waking X e.found (i.waking X x);
      order = λ X x. o.keeps.order c.sort.new.self.count i.low ∙ i.order X x;
      roomy = subst (λ n. IsRoomy n c.take_goal.new.self) i.roomy.known o.roomy;
      low = omega (arith, i.low, o.keeps.count);
      taken = taken_on e c.loop-place.self i.roomy c.loop-place.place i.taken (omega (arith, l, i.low))
          (within _ c.loop-place.self i.roomy) c.index-goal.result.now c.index-goal.ensures c.take_goal.new.self
          o.keeps o.waiting;
      steps = o.steps ∙ i.steps;
    }

pub loop-round-preserved : goal.loop-round-preserved
loop-round-preserved g c =
    let e = explored_view c.args.explored.now in
    let v = c.loop-round.invariant in
    let i = c.loop-place.invariant in
    let t = c.loop-place.self in
    let l = c.loop-place-test.false in
    let m = c.loop-place.auto.place-end in
    let same = c.sort.ensures.same.count in
    let end : c.loop-place.place ≡ c.sort.new.self.count = omega (arith, l, m, v.low, same) in
    let next : c.loop-round.round ≡ c.loop-round.round + 1 - 1 = omega arith in
    record {
      waking = λ X x. subst (λ k. Waking X e.found k (firsts t.waiting) t) next (i.waking X x);
      order = λ X x. i.order X x ∙ ap (in_order X e.found) next;
      roomy = i.roomy;
      low = i.low;
      taken = subst (λ p. IsTaken e p t) end i.taken;
      steps = i.steps;
    }

pub returns-clause-rounds : goal.returns-clause-rounds
returns-clause-rounds g c X x =
    let e = explored_view c.args.explored.now in
    let i = c.loop-round.invariant in
    let l = c.loop-round-test.false in
    let m = c.loop-round.auto.round in
    none_left X e x (c.loop-round.round - 1) c.loop-round.from c.loop-round.self c.sort-2.new.self i.roomy
    (i.waking X x) (i.order X x) i.low i.taken c.sort-2.ensures.same c.sort-2.ensures.sorted
    (omega (arith, l, m, c.len-round-end.ensures))
