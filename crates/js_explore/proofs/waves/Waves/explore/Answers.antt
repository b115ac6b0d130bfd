-- A wave is as many steps as goals that waited; after all waves, or after one that ends the search, another step
-- changes nothing.
use Rattle.std.proofs.Common.{◌≡◌, ◌-◌, ◌≤◌, length, arith, ap, sym, subst}
use Rattle.search.specs.Explored.{after}
use Rattle.js_explore.specs.Exploration.{Explores}
use Rattle.js_explore.specs.ExploredView.{explored_view, found_view}
use Rattle.js_explore.proofs.Steps.{after_all, finished}
use Rattle.js_explore.proofs.Going.{explores}
use Rattle.js_explore.proofs.WaveSteps.{after_wave, few_goals}
use Rattle.js_explore.proofs.waves.Waves.explore.Goals as goal
use Rattle.js_explore.proofs.waves.Waves.explore.Goals.{else-loop-turn-test, then-loop-turn-test+in_ok-wave+then-not-branch}

pub loop-turn-preserved : goal.loop-turn-preserved
loop-turn-preserved g c =
    let X = g.E.Expander.expansion c.args.self.now.expander.now in
    let M = c.args.self.now.most_goals in
    let T = c.args.self.now.most_total in
    let first = found_view c.in_ok-search.search in
    let now = found_view c.loop-turn.search in
    let next = found_view c.wave.new.search in
    let all : next.taken ≡ length now.goals = c.in_ok-wave.ensures.moved c.if-not-branch.false in
    let few : length now.goals ≤ M =
    few_goals M T X c.args.root first now now.taken (ap (λ e. e.found) c.in_ok-search.ensures)
    (omega (arith, c.loop-turn-test.true)) c.loop-turn.invariant.steps in
    record {
      steps = after_wave M T X first now next now.taken (length now.goals - now.taken) next.taken
          c.loop-turn.invariant.steps c.in_ok-wave.ensures.steps
          (omega (arith, all, c.loop-turn.invariant.goes_on.taken));
      most = omega (arith, all, few);
      turns = omega (
        arith,
        all,
        c.loop-turn.invariant.turns,
        c.in_ok-wave.ensures.some_left c.if-not-branch.false,
      );
      goes_on = c.in_ok-wave.ensures.goes_on;
    }

pub returns-clause-found : goal.returns-clause-found
returns-clause-found g c =
    let X = g.E.Expander.expansion c.args.self.now.expander.now in
    let M = c.args.self.now.most_goals in
    let T = c.args.self.now.most_total in
    let first = found_view c.in_ok-search.search in
    let now = found_view c.loop-turn.search in
    let last = found_view c.loop-turn-test.search in
    let root = ap (λ e. e.found) c.in_ok-search.ensures in
    elim c.loop-turn-test.branch [
      | else-loop-turn-test w ↦
          let all : now.taken ≡ M =
          omega (arith, w.loop-turn-test.false, c.loop-turn.invariant.turns, c.loop-turn.invariant.most) in
          finished M T X c.args.root first now last root
          (subst (λ n. now ≡ after M T X n first) all c.loop-turn.invariant.steps) (ap found_view w.search-is)
      | then-loop-turn-test+in_ok-wave+then-not-branch w ↦
          let next = found_view w.wave.new.search in
          finished M T X c.args.root first next last root
          (after_all M T X M (length now.goals) first next
          (few_goals M T X c.args.root first now now.taken root (omega (arith, w.loop-turn-test.true))
          c.loop-turn.invariant.steps)
          (after_wave M T X first now next now.taken (length now.goals - now.taken) (length now.goals)
          c.loop-turn.invariant.steps w.in_ok-wave.ensures.steps
          (omega (arith, c.loop-turn.invariant.goes_on.taken))) (w.in_ok-wave.ensures.ended w.if-not-branch.true))
          (ap found_view w.search-is)
    ]

pub returns-clause-answers : goal.returns-clause-answers
returns-clause-answers g c =
    let takes = g.E.Expander.takes c.args.self.now.expander.now in
    let X = g.E.Expander.expansion c.args.self.now.expander.now in
    let M = c.args.self.now.most_goals in
    let T = c.args.self.now.most_total in
    elim c.loop-turn-test.branch [
      | else-loop-turn-test w ↦
          subst (λ s. Explores X (explored_view s)) (sym w.search-is)
          (explores M T takes X (explored_view c.loop-turn.search) c.loop-turn.invariant.goes_on)
      | then-loop-turn-test+in_ok-wave+then-not-branch w ↦
          subst (λ s. Explores X (explored_view s)) (sym w.search-is)
          (explores M T takes X (explored_view w.wave.new.search) w.in_ok-wave.ensures.goes_on)
    ]
