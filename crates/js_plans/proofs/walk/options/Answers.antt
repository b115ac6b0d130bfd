-- By the number of the demand and the cells of the members, as by the path.
use Rattle.std.proofs.Common.{◌≡◌, length, arith, ap₂, sym, ◌∙◌}
use Rattle.std.proofs.lemmas.List.{length-map}
use Rattle.std.proofs.lemmas.Result.{IfOk-weaker}
use Rattle.js_plans.specs.Servers.{servers_of}
use Rattle.js_plans.specs.Choosing.{choices_after, choices_at}
use Rattle.js_plans.proofs.Options.{choices-are}
use Rattle.js_plans.proofs.walk.options.Goals as goal

pub returns : goal.returns
returns g c =
    let frame = g.F.PlanFrame.frame c.args.frame.now in
    let path = c.args.path.now in
    let ws = servers_of path in
    let count = sym (length-map path (λ e. e.server)) in
    IfOk-weaker c.choices_at.result
    (λ v. v.items ≡ choices_at frame (length path) c.args.members.now)
    (λ v. v.items ≡ choices_after frame ws)
    (λ v is. is ∙ ap₂ (choices_at frame) count c.requires.members
    ∙ choices-are frame ws (omega (arith, c.requires.left, count)))
    c.choices_at.ensures
