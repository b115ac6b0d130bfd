-- The next goal is entered, or has another number.
use Rattle.std.proofs.Common.{ap, ◌∙◌, arith}
use Rattle.verdicts.specs.Verdict.{step}
use Rattle.certificate_lines.specs.Line as L
use Rattle.js_checker.proofs.ShowingLemmas.{other_entered}
use Rattle.js_checker.proofs.JudgeLemmas.{idle_stage, enters}
use Rattle.js_checker.proofs.judge.Judge.enter.Goals as goal

pub returns-then-self-number-clause-broken : goal.returns-then-self-number-clause-broken
returns-then-self-number-clause-broken c =
    let j = c.args.self.now in
    let q = c.args.question in
    let T = q.core.now.positions in
    ap (λ s. step T q.premise.0 q.conclusion.0 s (L.Entry c.args.number))
    (idle_stage j c.requires.progress c.requires.idle)
    ∙ other_entered T q.premise.0 q.conclusion.0 j.goals.items j.entered c.args.number
    (omega (arith, c.if-self-len.false, c.len.ensures)) c.if-self-number.true

pub returns-clause-taken : goal.returns-clause-taken
returns-clause-taken c =
    let j = c.args.self.now in
    let q = c.args.question in
    enters q.core.now.positions q.premise.0 q.conclusion.0 j.progress j.goals.items j.entered c.args.number j.entry
    c.begin.new.self c.requires.progress c.requires.idle (omega (arith, c.if-self-len.false, c.len.ensures))
    c.if-self-number.false c.begin.ensures.duties
