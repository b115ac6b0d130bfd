-- A plan by its line.
use Rattle.std.proofs.Common.{◌<◌, ◌≤◌, length, map, refl, arith, ap, sym, ◌∙◌}
use Rattle.std.proofs.lemmas.List.{length-map}
use Rattle.certificate_lines.specs.Line as L
use Rattle.js_algebra.specs.View.{signed_view}
use Rattle.js_lines.specs.declared.lines.CertLine.TheVariants as V
use Rattle.js_lines.specs.View.{line_view}
use Rattle.js_plan_lines.specs.FormView.{form_view}
use Rattle.js_plan_lines.proofs.Adding.{one_more, on_ok, on_both}
use Rattle.js_plan_lines.proofs.Walking.{visits-over, visits-clash, visits-split, visits-complete}
use Rattle.js_plan_lines.proofs.tree.visit.Goals as goal

pub returns-then-is_over : goal.returns-then-is_over
returns-then-is_over g c =
    visits-over (g.D.Dead.number_of c.args.dead.now) (form_view c.args.form) (g.F.PlanFrame.table c.args.frame.now)
    (g.F.PlanFrame.frame c.args.frame.now) c.args.path.now c.args.pending.now.items
    (map line_view c.args.lines.now.items) (map line_view c.push.new.self.items)
    (one_more c.args.lines.now.items c.push.new.self.items V.Count L.Count c.in_ok-push.ensures.items refl)
    (sym c.is_over.ensures ∙ c.if-is_over.true)

pub returns-in-Some : goal.returns-in-Some
returns-in-Some g c =
    on_ok _ _ c.add_at.result
    (λ h. visits-clash (g.D.Dead.number_of c.args.dead.now) (form_view c.args.form)
    (g.F.PlanFrame.table c.args.frame.now) (g.F.PlanFrame.frame c.args.frame.now) c.args.path.now
    c.args.pending.now.items (map line_view c.args.lines.now.items) (map line_view c.add_at.new.lines.items)
    c.in-Some.number (sym c.is_over.ensures ∙ c.if-is_over.false) (sym c.in_ok-number.ensures ∙ c.in-Some.is) h)
    c.add_at.ensures

pub returns-then-path-demands : goal.returns-then-path-demands
returns-then-path-demands g c =
    let frame = g.F.PlanFrame.frame c.args.frame.now in
    let l : length c.args.path.now < length frame.demands = omega (
      arith,
      c.if-path-demands.true,
      ap length c.demands.ensures,
      length-map c.demands.result.now signed_view,
    ) in
    on_both _ _ _ c.split.result
    (λ more added. visits-split (g.D.Dead.number_of c.args.dead.now) (form_view c.args.form)
    (g.F.PlanFrame.table c.args.frame.now) frame c.args.path.now c.args.pending.now.items
    (map line_view c.args.lines.now.items) (map line_view c.split.new.lines.items) c.split.new.pending.items l
    (sym c.is_over.ensures ∙ c.if-is_over.false) (sym c.in_ok-number.ensures ∙ c.in_default.is) more added)
    c.split.ensures.pending c.split.ensures.lines

pub returns : goal.returns
returns g c =
    let frame = g.F.PlanFrame.frame c.args.frame.now in
    let l : length frame.demands ≤ length c.args.path.now = omega (
      arith,
      c.if-path-demands.false,
      ap length c.demands.ensures,
      length-map c.demands.result.now signed_view,
    ) in
    on_ok _ _ c.add_complete.result
    (λ added. visits-complete (g.D.Dead.number_of c.args.dead.now) (form_view c.args.form)
    (g.F.PlanFrame.table c.args.frame.now) frame c.args.path.now c.args.pending.now.items
    (map line_view c.args.lines.now.items) (map line_view c.add_complete.new.lines.items) l
    (sym c.is_over.ensures ∙ c.if-is_over.false) (sym c.in_ok-number.ensures ∙ c.in_default.is) added)
    c.add_complete.ensures
