-- A goal is left.
use Rattle.std.proofs.Common.{ap, ◌∙◌, [], ◌∷◌, ◌+◌, get_or, arith}
use Rattle.verdicts.specs.Duties.{OfGoal}
use Rattle.verdicts.specs.Verdict.{Showing, step}
use Rattle.certificate_lines.specs.Line as L
use Rattle.js_checker.proofs.ShowingLemmas.{next_goal}
use Rattle.js_checker.proofs.JudgeLemmas.{idle_stage}
use Rattle.js_checker.proofs.judge.Judge.end.Goals as goal

pub returns-then-self-len-clause-broken : goal.returns-then-self-len-clause-broken
returns-then-self-len-clause-broken c =
    let j = c.args.self.now in
    let q = c.args.question in
    let T = q.core.now.positions in
    ap (λ s. step T q.premise.0 q.conclusion.0 s L.End)
    (idle_stage j c.requires.progress c.requires.idle
    ∙ ap (Showing j.goals.items)
    (next_goal T q.premise.0 q.conclusion.0 j.goals.items j.entered (omega (arith, c.if-self-len.true, c.len.ensures))))
