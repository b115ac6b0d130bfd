-- The line of a complete plan.
use Rattle.std.proofs.Common.{◌≡◌, ◌++◌, [], ◌∷◌, map, OnOk, sym, ◌∙◌, subst}
use Rattle.js_lines.specs.View.{line_view}
use Rattle.js_plans.specs.Serving.{plan_after}
use Rattle.js_plan_lines.specs.FormView.{form_view}
use Rattle.js_plan_lines.proofs.Firsts.{complete-cited, complete-short}
use Rattle.js_plan_lines.proofs.lines.add_complete.Goals as goal

pub returns-in-Some : goal.returns-in-Some
returns-in-Some g c =
    let number = g.D.Dead.number_of c.args.dead.now in
    let T = g.F.PlanFrame.table c.args.frame.now in
    let frame = g.F.PlanFrame.frame c.args.frame.now in
    subst
    (λ l. OnOk c.add_at.result
    (map line_view c.add_at.new.lines.items ≡ map line_view c.args.lines.now.items ++ l ∷ []))
    (complete-cited number (form_view c.args.form) T frame (plan_after frame c.args.path.now) c.in-Some.number
    c.in-Some.cited (sym c.in_ok-number.ensures ∙ c.in-Some.is))
    c.add_at.ensures

pub returns-in-None : goal.returns-in-None
returns-in-None g c =
    let number = g.D.Dead.number_of c.args.dead.now in
    let T = g.F.PlanFrame.table c.args.frame.now in
    let frame = g.F.PlanFrame.frame c.args.frame.now in
    subst
    (λ l. OnOk c.add_short.result
    (map line_view c.add_short.new.lines.items ≡ map line_view c.args.lines.now.items ++ l ∷ []))
    (complete-short number (form_view c.args.form) T frame (plan_after frame c.args.path.now)
    (sym c.in_ok-number.ensures ∙ c.in-None.is))
    c.add_short.ensures
