-- A first place that is placed is named by its number.
use Rattle.std.proofs.Common.{◌≡◌, ◌<◌, ◌≤◌, true, false, Ok, [], OnOk, IfErr, arith, ap, ap₂, sym, ◌∙◌, subst}
use Rattle.std.proofs.lemmas.Bool.{lt-ltb, le-ltb}
use Rattle.certificate_lines.specs.Line as L
use Rattle.js_rules.specs.Told.{Breaks}
use Rattle.js_lines.specs.View.{end_view}
use Rattle.js_check_plans.specs.FormView.{form_view}
use Rattle.js_check_plans.specs.Reach.{heads_of}
use Rattle.js_check_plans.specs.OpenDuties.{after_line, after_at}
use Rattle.js_check_plans.proofs.LineLemmas.{index-line}
use Rattle.js_check_plans.proofs.lines.index.Goals as goal

pub returns-then-from-heads_placed-clause-ended : goal.returns-then-from-heads_placed-clause-ended
returns-then-from-heads_placed-clause-ended g c =
    let T = g.F.CheckFrame.table c.args.frame.now in
    let frame = g.F.CheckFrame.frame c.args.frame.now in
    let gs = c.args.goals.now in
    let ws = c.args.path.now.servers.items in
    let e = end_view c.args.end in
    let less : c.args.number < c.heads_placed.result =
    omega (arith, c.from.ensures, c.if-from-heads_placed.true) in
    subst (λ v. OnOk c.refuted.result (v ≡ Ok []))
    (ap (λ n. after_at T gs frame ws n e) c.from-then-from-heads_placed.ensures
    ∙ sym (index-line T gs frame ws c.args.number c.heads_placed.result e true c.requires
    (c.heads_placed.ensures.value ∙ ap₂ (heads_of frame) c.extent.ensures.used c.extent.ensures.members)
    (lt-ltb c.args.number c.heads_placed.result less))
    ∙ ap (λ f. after_line T gs (form_view f) frame ws (L.OfIndex c.args.number e)) (sym c.in-OfArrays.is))
    c.refuted.ensures.ended

pub returns-then-from-heads_placed-clause-broken : goal.returns-then-from-heads_placed-clause-broken
returns-then-from-heads_placed-clause-broken g c =
    let T = g.F.CheckFrame.table c.args.frame.now in
    let frame = g.F.CheckFrame.frame c.args.frame.now in
    let gs = c.args.goals.now in
    let ws = c.args.path.now.servers.items in
    let e = end_view c.args.end in
    let less : c.args.number < c.heads_placed.result =
    omega (arith, c.from.ensures, c.if-from-heads_placed.true) in
    subst (λ v. IfErr c.refuted.result (λ fault. Breaks v fault))
    (ap (λ n. after_at T gs frame ws n e) c.from-then-from-heads_placed.ensures
    ∙ sym (index-line T gs frame ws c.args.number c.heads_placed.result e true c.requires
    (c.heads_placed.ensures.value ∙ ap₂ (heads_of frame) c.extent.ensures.used c.extent.ensures.members)
    (lt-ltb c.args.number c.heads_placed.result less))
    ∙ ap (λ f. after_line T gs (form_view f) frame ws (L.OfIndex c.args.number e)) (sym c.in-OfArrays.is))
    c.refuted.ensures.broken

pub returns-else-from-heads_placed-clause-broken : goal.returns-else-from-heads_placed-clause-broken
returns-else-from-heads_placed-clause-broken g c =
    let T = g.F.CheckFrame.table c.args.frame.now in
    let frame = g.F.CheckFrame.frame c.args.frame.now in
    let gs = c.args.goals.now in
    let ws = c.args.path.now.servers.items in
    let e = end_view c.args.end in
    let more : c.heads_placed.result ≤ c.args.number =
    omega (arith, c.from.ensures, c.if-from-heads_placed.false) in
    ap (λ f. after_line T gs (form_view f) frame ws (L.OfIndex c.args.number e)) c.in-OfArrays.is
    ∙ index-line T gs frame ws c.args.number c.heads_placed.result e false c.requires
    (c.heads_placed.ensures.value ∙ ap₂ (heads_of frame) c.extent.ensures.used c.extent.ensures.members)
    (le-ltb c.args.number c.heads_placed.result more)
