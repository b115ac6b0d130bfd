-- One goal after another.
use Rattle.std.proofs.Common.{◌≡◌, ◌<◌, ◌+◌, ◌≤◌, length, take, ap, sym, ◌∙◌, refl, subst, arith}
use Rattle.std.proofs.lemmas.List.{take_all}
use Rattle.js_explore.specs.ExploredView.{explored_view}
use Rattle.js_rounds.specs.State.{IsRoomy}
use Rattle.js_rounds.specs.Waking.{Waking, firsts}
use Rattle.js_rounds.proofs.Taking.{length_uncounted}
use Rattle.js_rounds.proofs.Woken.{begun}
use Rattle.js_rounds.proofs.rounds.Rounds.begin.Goals as goal

pub look-requires-clause-goal : goal.look-requires-clause-goal
look-requires-clause-goal c =
    let l = c.loop-goal-test.true in
    omega (arith, l, c.loop-goal.invariant.roomy.known, c.len-goal-end.ensures)

pub look-requires-clause-roomy : goal.look-requires-clause-roomy
look-requires-clause-roomy c =
    let r = c.loop-goal.invariant.roomy in
    subst (λ n. IsRoomy n c.loop-goal.self) (sym r.known) r

pub returns-clause-waking : goal.returns-clause-waking
returns-clause-waking c X f =
    let e = explored_view c.args.explored.now in
    let i = c.loop-goal.invariant in
    let l = c.loop-goal-test.false in
    let n = ap length (i.waiting ∙ c.requires.uncounted.waiting) in
    let k = length_uncounted e in
    subst (λ w. Waking X f 0 (firsts w) c.loop-goal.self)
    (take_all c.loop-goal.goal c.loop-goal.self.waiting (omega (arith, l, n, k, c.len-goal-end.ensures)))
    (i.waking X f)

pub loop-goal-preserved : goal.loop-goal-preserved
loop-goal-preserved c =
    let i = c.loop-goal.invariant in
    record {
      waking = λ X f. subst (λ w. Waking X f 0 (firsts (take (c.loop-goal.goal + 1) w)) c.look.new.self)
          (sym c.look.ensures.waiting) (c.look.ensures.waking X f (i.waking X f));
      roomy = subst (λ n. IsRoomy n c.look.new.self) i.roomy.known c.look.ensures.roomy;
      has_run = c.look.ensures.has_run ∙ i.has_run;
      waiting = c.look.ensures.waiting ∙ i.waiting;
      mentions = c.look.ensures.mentions ∙ i.mentions;
    }

pub loop-goal-init : goal.loop-goal-init
loop-goal-init c = record {
  waking = λ X f. begun X f _ c.args.self.now.waiting c.args.self.now c.requires.new;
  roomy = c.requires.new.roomy;
  has_run = refl;
  waiting = refl;
  mentions = refl;
}
