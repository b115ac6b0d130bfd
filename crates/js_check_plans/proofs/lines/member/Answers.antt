-- A member is named by its number.
use Rattle.std.proofs.Common.{IfErr, ap, sym, ◌∙◌, subst}
use Rattle.certificate_lines.specs.Line as L
use Rattle.js_rules.specs.Told.{Breaks}
use Rattle.js_lines.specs.View.{end_view}
use Rattle.js_check_plans.specs.FormView.{form_view}
use Rattle.js_check_plans.specs.OpenDuties.{after_line, after_at}
use Rattle.js_check_plans.proofs.LineLemmas.{member-line}
use Rattle.js_check_plans.proofs.lines.member.Goals as goal

pub returns-in-OfObjects-clause-broken : goal.returns-in-OfObjects-clause-broken
returns-in-OfObjects-clause-broken g c =
    let T = g.F.CheckFrame.table c.args.frame.now in
    let frame = g.F.CheckFrame.frame c.args.frame.now in
    let gs = c.args.goals.now in
    let ws = c.args.path.now.servers.items in
    let e = end_view c.args.end in
    subst (λ v. IfErr c.refuted.result (λ fault. Breaks v fault))
    (ap (λ n. after_at T gs frame ws n e) c.from.ensures
    ∙ sym (member-line T gs frame ws c.args.number e)
    ∙ ap (λ f. after_line T gs (form_view f) frame ws (L.OfMember c.args.number e)) (sym c.in-OfObjects.is))
    c.refuted.ensures.broken
