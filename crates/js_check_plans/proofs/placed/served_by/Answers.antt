-- The demands, the latest first.
use Rattle.std.proofs.Common.{◌≡◌, map, true, ap, sym, ◌∙◌, subst}
use Rattle.js_algebra.specs.View.{signed_view, is_in_table, are_in_table}
use Rattle.js_plans.specs.Servers.{earlier}
use Rattle.js_check_plans.proofs.placed.served_by.Goals as goal
use Rattle.js_plans.proofs.Served.{served_list, every-served}

pub returns-clause-value : goal.returns-clause-value
returns-clause-value g c =
    served_list c.args.server c.demands.result.now c.in_ok-served.served.items c.reverse.new.self.items
    (g.F.CheckFrame.frame c.args.frame.now).demands c.args.path.now.servers.items c.demands.ensures
    (c.in_ok-served.ensures
    ∙ ap (earlier c.args.server (map signed_view c.demands.result.now) 0) c.servers.ensures)
    c.reverse.ensures.items

pub returns-clause-in_table : goal.returns-clause-in_table
returns-clause-in_table g c =
    let T = g.F.CheckFrame.table c.args.frame.now in
    let D = (g.F.CheckFrame.frame c.args.frame.now).demands in
    subst (λ xs. are_in_table T xs ≡ true)
    (sym (served_list c.args.server c.demands.result.now c.in_ok-served.served.items c.reverse.new.self.items
    D c.args.path.now.servers.items c.demands.ensures (c.in_ok-served.ensures
    ∙ ap (earlier c.args.server (map signed_view c.demands.result.now) 0) c.servers.ensures) c.reverse.ensures.items))
    (every-served (is_in_table T) c.args.server D c.args.path.now.servers.items
    (g.met.F.CheckFrame.demands_in_table c.args.frame.now))
