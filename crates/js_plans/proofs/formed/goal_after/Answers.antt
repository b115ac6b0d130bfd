-- The demands that a server serves, the latest first.
use Rattle.std.proofs.Common.{◌≡◌, length, true, arith, ap, ap₂, refl, sym, ◌∙◌, subst}
use Rattle.std.proofs.lemmas.List.{length-map}
use Rattle.frames.specs.Plan.{goal_of}
use Rattle.js_algebra.specs.View.{signed_view, is_in_table, are_in_table}
use Rattle.js_plans.specs.Servers.{servers_of}
use Rattle.js_plans.proofs.Forming.{served_list, every-served}
use Rattle.js_plans.proofs.formed.goal_after.Goals as goal
use Rattle.js_plans.proofs.Served.{if_ok}

pub goal_at-requires : goal.goal_at-requires
goal_at-requires g c =
    let T = g.F.PlanFrame.table c.args.frame.now in
    let D = (g.F.PlanFrame.frame c.args.frame.now).demands in
    subst (λ xs. are_in_table T xs ≡ true)
    (sym (served_list c.args.server c.demands-demands.result.now D c.args.path.now c.in_ok-served.served.items
    c.push.new.self.items c.as_slice.result.now _ _ c.demands-demands.ensures c.in_ok-served.ensures
    c.in_ok-push.ensures.items refl (omega (
      arith,
      c.requires,
      ap length c.demands-demands.ensures,
      length-map c.demands-demands.result.now signed_view,
    )) (c.as_slice.ensures.value ∙ c.reverse.ensures.items)))
    (every-served (is_in_table T) c.args.server D (servers_of c.args.path.now)
    (omega (arith, c.requires, length-map c.args.path.now (λ e. e.server)))
    (g.met.F.PlanFrame.demands_in_table c.args.frame.now))

pub returns : goal.returns
returns g c =
    let T = g.F.PlanFrame.table c.args.frame.now in
    let frame = g.F.PlanFrame.frame c.args.frame.now in
    let D = frame.demands in
    let list = served_list c.args.server c.demands-demands.result.now D c.args.path.now c.in_ok-served.served.items
    c.push.new.self.items c.as_slice.result.now _ _ c.demands-demands.ensures c.in_ok-served.ensures
    c.in_ok-push.ensures.items refl (omega (
      arith,
      c.requires,
      ap length c.demands-demands.ensures,
      length-map c.demands-demands.result.now signed_view,
    )) (c.as_slice.ensures.value ∙ c.reverse.ensures.items) in
    if_ok _ _ c.goal_at.result (λ o e. e ∙ ap₂ (λ at ds. goal_of T frame (at, ds)) c.place_of.ensures list)
    c.goal_at.ensures
