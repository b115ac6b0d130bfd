-- The demands, the latest first.
use Rattle.std.proofs.Common.{◌≡◌, ◌≤◌, drop, map, true, arith, ap, sym, ◌∙◌, subst}
use Rattle.std.proofs.lemmas.List.{drop-map}
use Rattle.js_algebra.specs.View.{signed_view, is_in_table, are_in_table}
use Rattle.js_plans.specs.Servers.{earlier}
use Rattle.js_plan_lines.specs.Kept.{member_or}
use Rattle.js_plan_lines.proofs.Extents.{part-extents}
use Rattle.js_plan_lines.proofs.Starting.{from-start}
use Rattle.js_plan_lines.proofs.placed.served_by.Goals as goal
use Rattle.js_plans.proofs.Served.{served_list, every-served}

pub extent_of-members-requires : goal.extent_of-members-requires
extent_of-members-requires g c = part-extents c.min-start.result c.args.path.now c.args.extents.now c.requires.extents

pub returns-clause-value : goal.returns-clause-value
returns-clause-value g c =
    let ds = c.demands.result.now in
    let start = c.min-start.result in
    let first : start ≤ member_or 0 c.args.server = omega (arith, c.min-start.ensures, c.start_of.ensures) in
    let all : map signed_view c.in_ok-served.served.items
    ≡ earlier c.args.server (map signed_view ds) 0 c.args.path.now =
    c.in_ok-served.ensures
    ∙ ap (λ us. earlier c.args.server us c.extent_of-members.result.members (drop start c.args.path.now))
    (sym (drop-map signed_view start ds))
    ∙ from-start c.args.server (g.F.PlanFrame.frame c.args.frame.now) (map signed_view ds) c.args.path.now start
    c.extent_of-members.result.members c.requires.path first c.extent_of-members.ensures.members in
    served_list c.args.server ds c.in_ok-served.served.items c.reverse.new.self.items
    (g.F.PlanFrame.frame c.args.frame.now).demands c.args.path.now c.demands.ensures all c.reverse.ensures.items

pub returns-clause-in_table : goal.returns-clause-in_table
returns-clause-in_table g c =
    let T = g.F.PlanFrame.table c.args.frame.now in
    let D = (g.F.PlanFrame.frame c.args.frame.now).demands in
    subst (λ xs. are_in_table T xs ≡ true) (sym (returns-clause-value g c))
    (every-served (is_in_table T) c.args.server D c.args.path.now (g.met.F.PlanFrame.demands_in_table c.args.frame.now))
