-- By the number of the demand and the cells of the members, as by the path.
use Rattle.std.proofs.Common.{◌≡◌, length, arith, ap, ◌∙◌}
use Rattle.std.proofs.lemmas.Result.{IfOk-weaker}
use Rattle.js_plans.specs.Choosing.{choices_after, choices_at}
use Rattle.js_plans.proofs.Options.{choices-are}
use Rattle.js_plan_lines.proofs.tree.options.Goals as goal

pub returns : goal.returns
returns g c =
    let frame = g.F.PlanFrame.frame c.args.frame.now in
    let path = c.args.path.now in
    IfOk-weaker c.choices_at.result
    (λ v. v.items ≡ choices_at frame (length path) c.args.members.now)
    (λ v. v.items ≡ choices_after frame path)
    (λ v is. is ∙ ap (choices_at frame (length path)) c.requires.members
    ∙ choices-are frame path (omega (arith, c.requires.left)))
    c.choices_at.ensures
