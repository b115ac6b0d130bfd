-- Between goals every other line is out of place.
use Rattle.std.proofs.Common.{ap, ◌∙◌, drop}
use Rattle.verdicts.specs.Verdict.{step}
use Rattle.js_lines.specs.View.{line_view}
use Rattle.js_checker.proofs.JudgeLemmas.{idle_stage, other_line}
use Rattle.js_checker.proofs.judge.Judge.take_between.Goals as goal

pub returns-in_default-clause-broken : goal.returns-in_default-clause-broken
returns-in_default-clause-broken c =
    let j = c.args.self.now in
    let q = c.args.question in
    let T = q.core.now.positions in
    ap (λ s. step T q.premise.0 q.conclusion.0 s (line_view c.args.line.now))
    (idle_stage j c.requires.progress c.requires.idle)
    ∙ other_line T q.premise.0 q.conclusion.0 j.goals.items (drop j.entered j.goals.items) j.entered c.args.line.now
    c.in_default.not-Entry c.in_default.not-End
