-- All choices.
use Rattle.std.proofs.Common.{◌++◌, map, get_or, ap, ap₂, ◌∙◌}
use Rattle.std.specs.List.{range_with_len}
use Rattle.goals.specs.Signed.{Plus}
use Rattle.js_plans.specs.declared.server.Server.TheVariants as V
use Rattle.js_plans.specs.Choosing.{serving_cells, open_cells}
use Rattle.js_plans.proofs.choices.choices_at.Goals as goal

pub returns : goal.returns
returns g c =
    let frame = g.F.PlanFrame.frame c.args.frame.now in
    let d = get_or frame.demands c.args.demand (Plus 0) in
    let members = c.args.members.now in
    c.in_ok-add_new.ensures
    ∙ ap (λ xs. xs ++ open_cells frame d members frame.cells)
    (c.in_ok-add_members.ensures
    ∙ ap (λ xs. xs ++ serving_cells frame d 0 members)
    (c.in_ok-add_heads.ensures
    ∙ ap₂ (λ xs h. xs ++ map V.Head (range_with_len 0 h)) c.new-choices.ensures.items c.heads.ensures))
