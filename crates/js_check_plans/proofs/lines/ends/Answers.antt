-- The entries of the line.
use Rattle.std.proofs.Common.{IfErr, ap, sym, ◌∙◌, subst}
use Rattle.certificate_lines.specs.Line as L
use Rattle.js_rules.specs.Told.{Breaks}
use Rattle.js_lines.specs.View.{line_view}
use Rattle.js_check_plans.specs.FormView.{form_view}
use Rattle.js_check_plans.specs.OpenDuties.{after_line}
use Rattle.js_check_plans.proofs.lines.ends.Goals as goal

pub returns-in-Short-clause-broken : goal.returns-in-Short-clause-broken
returns-in-Short-clause-broken g c =
    let T = g.F.CheckFrame.table c.args.frame.now in
    let frame = g.F.CheckFrame.frame c.args.frame.now in
    let left = after_line T c.args.goals.now (form_view c.args.form) frame c.args.path.now.servers.items in
    subst (λ v. IfErr c.short.result (λ fault. Breaks v fault))
    (ap (λ es. left (L.Short es)) c.as_slice.ensures ∙ ap (λ l. left (line_view l)) (sym c.in-Short.is))
    c.short.ensures.broken
