-- A list that is no goal breaks the rule that its line has.
use Rattle.std.proofs.Common.{ap}
use Rattle.js_lines.specs.View.{line_view}
use Rattle.js_checker.proofs.Results.{passed}
use Rattle.js_checker.proofs.JudgeLemmas.{goal_faults}
use Rattle.js_checker.proofs.judge.Judge.take_goal.Goals as goal

pub returns-in_err-goal-in-Goal-clause-broken : goal.returns-in_err-goal-in-Goal-clause-broken
returns-in_err-goal-in-Goal-clause-broken c =
    let j = c.args.self.now in
    let q = c.args.question in
    let fault = c.in_err-goal-in-Goal.field-0.0 in
    passed _ c.from_residual.result fault c.from_residual.ensures.1
    (goal_faults q.core.now.positions q.premise.0 q.conclusion.0 j.progress c.args.left j.goals.items j.entered j.entry
    (line_view c.args.line.now) c.in-Goal.list _ fault c.requires.progress (ap line_view c.in-Goal.is)
    c.as_slice.ensures c.in_err-goal-in-Goal.ensures.broken)
