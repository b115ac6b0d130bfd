-- The count decides.
use Rattle.std.proofs.Common.{true, false, sym, ◌∙◌}
use Rattle.js_check_plans.specs.FormView.{form_view}
use Rattle.js_check_plans.proofs.LineLemmas.{count-line}
use Rattle.js_check_plans.proofs.lines.over.Goals as goal

pub returns-then-is_over-clause-ended : goal.returns-then-is_over-clause-ended
returns-then-is_over-clause-ended g c =
    count-line (g.F.CheckFrame.table c.args.frame.now) c.args.goals.now (g.F.CheckFrame.frame c.args.frame.now)
    c.args.path.now.servers.items (form_view c.args.form) true (sym c.is_over.ensures ∙ c.if-is_over.true)

pub returns-else-is_over-clause-broken : goal.returns-else-is_over-clause-broken
returns-else-is_over-clause-broken g c =
    count-line (g.F.CheckFrame.table c.args.frame.now) c.args.goals.now (g.F.CheckFrame.frame c.args.frame.now)
    c.args.path.now.servers.items (form_view c.args.form) false (sym c.is_over.ensures ∙ c.if-is_over.false)
