-- The entries are those of the plan.
use Rattle.std.proofs.Common.{map, ap, ◌∙◌}
use Rattle.certificate_lines.specs.Line as L
use Rattle.js_lines.specs.declared.lines.CertLine.TheVariants as V
use Rattle.js_plan_lines.specs.Cited.{entry_in}
use Rattle.js_plan_lines.proofs.Adding.{one_more}
use Rattle.js_plan_lines.proofs.Firsts.{entries-are}
use Rattle.js_plan_lines.proofs.lines.add_short.Goals as goal

pub returns : goal.returns
returns g c =
    let number = g.D.Dead.number_of c.args.dead.now in
    let T = g.F.PlanFrame.table c.args.frame.now in
    let frame = g.F.PlanFrame.frame c.args.frame.now in
    one_more c.args.lines.now.items c.push.new.self.items (V.Short c.from_vec.result) _ c.in_ok-push.ensures.items
    (ap L.Short
    (c.from_vec.ensures
    ∙ c.in_ok-entries.ensures
    ∙ ap (λ ms. map (entry_in number T frame ms) frame.cells) c.requires.members
    ∙ entries-are number T frame c.args.path.now frame.cells c.requires.few))
