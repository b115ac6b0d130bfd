-- Each answer is for the goal that comes next, and a step that ends the search is repeated by those that are left.
use Rattle.std.proofs.Common.{◌+◌, length, arith}
use Rattle.js_explore.specs.ExploredView.{found_view}
use Rattle.js_explore.proofs.Steps.{after_step, after_all}
use Rattle.js_explore.proofs.WaveSteps.{next_waits, next_answer}
use Rattle.js_explore.proofs.waves.Waves.take_all.Goals as goal

pub take-requires-clause-next : goal.take-requires-clause-next
take-requires-clause-next g c =
    next_waits c.args.self.now.most_goals c.args.self.now.most_total
    (g.E.Expander.expansion c.args.self.now.expander.now) (found_view c.args.search.now)
    (found_view c.loop-answer.search) c.loop-answer.answer-index c.loop-answer.invariant.steps
    c.loop-answer.invariant.count (length c.args.answers.now) c.requires.count c.loop-answer-test.true

pub take-requires-clause-answer : goal.take-requires-clause-answer
take-requires-clause-answer g c =
    next_answer c.args.self.now.most_goals c.args.self.now.most_total
    (g.E.Expander.expansion c.args.self.now.expander.now) (found_view c.args.search.now)
    (found_view c.loop-answer.search) c.loop-answer.answer-index c.loop-answer.invariant.steps
    c.loop-answer.invariant.count c.args.answers.now c.answer-item.result c.requires.count c.requires.each
    c.loop-answer-test.true c.answer-item.is

pub returns-then-not-branch-clause-steps : goal.returns-then-not-branch-clause-steps
returns-then-not-branch-clause-steps g c =
    let M = c.args.self.now.most_goals in
    let T = c.args.self.now.most_total in
    let X = g.E.Expander.expansion c.args.self.now.expander.now in
    let first = found_view c.args.search.now in
    let now = found_view c.loop-answer.search in
    let next = found_view c.take.new.search in
    after_all M T X (length c.args.answers.now) (c.loop-answer.answer-index + 1) first next
    (omega (arith, c.loop-answer-test.true))
    (after_step M T X c.loop-answer.answer-index first now next c.loop-answer.invariant.steps
    c.in_ok-take.ensures.step) (c.in_ok-take.ensures.ended c.if-not-branch.true)
