-- An element behind the first places is named by its number behind them.
use Rattle.std.proofs.Common.{◌≡◌, ◌+◌, Ok, [], OnOk, IfErr, ap, ap₂, sym, ◌∙◌, subst}
use Rattle.certificate_lines.specs.Line as L
use Rattle.js_rules.specs.Told.{Breaks}
use Rattle.js_lines.specs.View.{end_view}
use Rattle.js_check_plans.specs.FormView.{form_view}
use Rattle.js_check_plans.specs.Reach.{heads_of}
use Rattle.js_check_plans.specs.OpenDuties.{after_line}
use Rattle.js_check_plans.proofs.LineLemmas.{tail-line}
use Rattle.js_check_plans.proofs.lines.tail.Goals as goal

pub returns-in-OfArrays-clause-ended : goal.returns-in-OfArrays-clause-ended
returns-in-OfArrays-clause-ended g c =
    let T = g.F.CheckFrame.table c.args.frame.now in
    let frame = g.F.CheckFrame.frame c.args.frame.now in
    let gs = c.args.goals.now in
    let ws = c.args.path.now.servers.items in
    let e = end_view c.args.end in
    let h = c.heads_placed-heads.result in
    subst (λ v. OnOk c.refuted.result (v ≡ Ok []))
    (sym (tail-line T gs frame ws c.args.number h (h + c.from.result) e c.requires
    (c.heads_placed-heads.ensures.value ∙ ap₂ (heads_of frame) c.extent.ensures.used c.extent.ensures.members)
    (ap (λ n. h + n) c.from.ensures))
    ∙ ap (λ f. after_line T gs (form_view f) frame ws (L.OfTail c.args.number e)) (sym c.in-OfArrays.is))
    c.refuted.ensures.ended

pub returns-in-OfArrays-clause-broken : goal.returns-in-OfArrays-clause-broken
returns-in-OfArrays-clause-broken g c =
    let T = g.F.CheckFrame.table c.args.frame.now in
    let frame = g.F.CheckFrame.frame c.args.frame.now in
    let gs = c.args.goals.now in
    let ws = c.args.path.now.servers.items in
    let e = end_view c.args.end in
    let h = c.heads_placed-heads.result in
    subst (λ v. IfErr c.refuted.result (λ fault. Breaks v fault))
    (sym (tail-line T gs frame ws c.args.number h (h + c.from.result) e c.requires
    (c.heads_placed-heads.ensures.value ∙ ap₂ (heads_of frame) c.extent.ensures.used c.extent.ensures.members)
    (ap (λ n. h + n) c.from.ensures))
    ∙ ap (λ f. after_line T gs (form_view f) frame ws (L.OfTail c.args.number e)) (sym c.in-OfArrays.is))
    c.refuted.ensures.broken
