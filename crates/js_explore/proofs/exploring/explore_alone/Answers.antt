-- After all turns, or after one that changed nothing.
use Rattle.std.proofs.Common.{◌≡◌, ◌+◌, arith, ap, sym, subst}
use Rattle.search.specs.Explored.{after}
use Rattle.js_explore.specs.Exploration.{Explores}
use Rattle.js_explore.specs.ExploredView.{explored_view, found_view}
use Rattle.js_explore.proofs.Steps.{after_step, after_all, finished}
use Rattle.js_explore.proofs.Going.{explores}
use Rattle.js_explore.proofs.exploring.explore_alone.Goals as goal
use Rattle.js_explore.proofs.exploring.explore_alone.Goals.{else-loop-turn-test, then-loop-turn-test+in_ok-step+then-not-branch}

pub returns-clause-found : goal.returns-clause-found
returns-clause-found g c =
    let X = g.E.Expander.expansion c.args.expander.now in
    let M = c.args.most_goals in
    let T = c.args.most_total in
    let first = found_view c.in_ok-search.search in
    let now = found_view c.loop-turn.search in
    let last = found_view c.loop-turn-test.search in
    elim c.loop-turn-test.branch [
      | else-loop-turn-test w ↦
          let e : c.loop-turn.turn ≡ M = omega (arith, w.loop-turn-test.false, c.loop-turn.auto.turn-end) in
          finished M T X c.args.root first now last (ap (λ e. e.found) c.in_ok-search.ensures)
          (subst (λ n. now ≡ after M T X n first) e c.loop-turn.invariant.steps) (ap found_view w.search-is)
      | then-loop-turn-test+in_ok-step+then-not-branch w ↦
          let next = found_view w.step.new.self in
          finished M T X c.args.root first next last (ap (λ e. e.found) c.in_ok-search.ensures)
          (after_all M T X M (c.loop-turn.turn + 1) first next (omega (arith, w.loop-turn-test.true))
          (after_step M T X c.loop-turn.turn first now next c.loop-turn.invariant.steps w.in_ok-step.ensures.step)
          (w.in_ok-step.ensures.ended w.if-not-branch.true))
          (ap found_view w.search-is)
    ]

pub returns-clause-answers : goal.returns-clause-answers
returns-clause-answers g c =
    let takes = g.E.Expander.takes c.args.expander.now in
    let X = g.E.Expander.expansion c.args.expander.now in
    let M = c.args.most_goals in
    let T = c.args.most_total in
    elim c.loop-turn-test.branch [
      | else-loop-turn-test w ↦
          subst (λ s. Explores X (explored_view s)) (sym w.search-is)
          (explores M T takes X (explored_view c.loop-turn.search) c.loop-turn.invariant.goes_on)
      | then-loop-turn-test+in_ok-step+then-not-branch w ↦
          subst (λ s. Explores X (explored_view s)) (sym w.search-is)
          (explores M T takes X (explored_view w.step.new.self) w.in_ok-step.ensures.goes_on)
    ]
