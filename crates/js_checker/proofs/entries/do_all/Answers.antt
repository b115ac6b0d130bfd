-- What has begun has the goal at each kind left.
use Rattle.std.proofs.Common.{map, ap, ◌∙◌}
use Rattle.std.proofs.lemmas.Result.{IfOk-weaker}
use Rattle.js_lines.specs.View.{line_view}
use Rattle.js_checker.specs.Entries.{do_all}
use Rattle.js_checker.proofs.entries.do_all.Goals as goal

pub returns : goal.returns
returns c =
    let g = c.args.goal.now in
    IfOk-weaker c.take_all-done.result _ _ (λ b e.
    e ∙ ap (λ ds. do_all c.args.core.now.positions c.args.goals.now ds (map line_view c.args.lines.now))
    (c.begin.ensures.duties g)) c.take_all-done.ensures
