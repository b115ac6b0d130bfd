-- The plan of the path.
use Rattle.std.proofs.Common.{◌≡◌, ◌+◌, ◌-◌, ◌≤◌, ◌++◌, [], map, flat_map, take, reverse, max, min, cond, nat_eq, length, arith, ap, ap₂, sym, ◌∙◌, subst}
use Rattle.std.proofs.lemmas.List.{length-map, length-take-le}
use Rattle.frames.specs.Plan.{size, need, placed}
use Rattle.std.specs.List.{range_with_len}
use Rattle.expansions.specs.Leaves.{filling_of}
use Rattle.js_algebra.specs.View.{kind_view}
use Rattle.js_plans.specs.Serving.{plan_after}
use Rattle.js_plans.specs.Servers.{cells_of, servers_of}
use Rattle.js_plans.specs.Walks.{size_of, placed_heads}
use Rattle.js_plans.specs.Named.{naming_view, placed_from, filler_in}
use Rattle.js_plans.specs.Placing.{put_heads, put_members}
use Rattle.js_plans.proofs.Namings.{used-within, members-plan, placed-length, fillers-plan, alternative-is}
use Rattle.js_plans.proofs.alternative_list.alternative.Goals as goal
use Rattle.js_plans.proofs.Plans.{members-count, size-plan}

pub need-need-requires-clause-used : goal.need-need-requires-clause-used
need-need-requires-clause-used g c =
    let frame = g.F.PlanFrame.frame c.args.frame.now in
    subst (λ n. n ≤ frame.heads) (sym c.of-extent.ensures.used)
    (used-within frame.heads 0 0 (servers_of c.args.path.now) c.requires.path.valid (omega arith))

pub slice_bounds-placed-end : goal.slice_bounds-placed-end
slice_bounds-placed-end g c =
    let T = g.F.PlanFrame.table c.args.frame.now in
    let frame = g.F.PlanFrame.frame c.args.frame.now in
    let ws = servers_of c.args.path.now in
    let l : length ws ≤ length frame.demands =
    omega (arith, c.requires.path.few, length-map c.args.path.now (λ e. e.server)) in
    let count : c.min-count.result ≡ placed_heads frame ws =
    c.min-count.ensures
    ∙ ap₂ min (c.size-size.ensures ∙ ap₂ (size_of frame) c.of-extent.ensures.used c.of-extent.ensures.members
    ∙ sym (size-plan frame ws l c.requires.path.valid)) (c.from.ensures ∙ c.heads.ensures) in
    sym (length-take-le c.min-count.result c.args.first.now (omega (arith, count, c.requires.placed)))

pub returns-clause-made : goal.returns-clause-made
returns-clause-made g c =
    let T = g.F.PlanFrame.table c.args.frame.now in
    let frame = g.F.PlanFrame.frame c.args.frame.now in
    let N = naming_view c.args.naming in
    let es = c.args.path.now in
    let ws = servers_of es in
    let q = plan_after frame ws in
    let l : length ws ≤ length frame.demands = omega (arith, c.requires.path.few, length-map es (λ e. e.server)) in
    let long : c.size-size.result ≡ size frame q =
    c.size-size.ensures ∙ ap₂ (size_of frame) c.of-extent.ensures.used c.of-extent.ensures.members
    ∙ sym (size-plan frame ws l c.requires.path.valid) in
    let count : c.min-count.result ≡ placed_heads frame ws =
    c.min-count.ensures ∙ ap₂ min long (c.from.ensures ∙ c.heads.ensures) in
    let short : length (take c.min-count.result c.args.first.now) ≡ c.min-count.result =
    length-take-le c.min-count.result c.args.first.now (omega (arith, count, c.requires.placed)) in
    let wanted : c.need-need.result ≡ need frame q =
    c.need-need.ensures
    ∙ ap₂ (λ n m. max frame.lower n - (frame.heads + m)) long
    (c.of-extent.ensures.members ∙ sym (members-count frame ws l)) in
    let placed_all : c.min-count.result + c.of-extent.result.members ≡ length (placed frame q) =
    ap₂ (λ n m. n + m) count c.of-extent.ensures.members ∙ sym (placed-length T frame ws l) in
    alternative-is N (kind_view c.args.branch.kind) c.args.branch.number T frame q _ _ _ _ c.shape.ensures
    (c.in_ok-members.ensures
    ∙ ap (λ k. placed_from N 0 [] (range_with_len 0 k) (put_heads es (take c.min-count.result c.args.first.now))
    ++ placed_from N k (reverse (range_with_len 0 k)) (cells_of ws) (put_members es [])) short
    ∙ ap (λ k. placed_from N 0 [] (range_with_len 0 k) (put_heads es (take k c.args.first.now))
    ++ placed_from N k (reverse (range_with_len 0 k)) (cells_of ws) (put_members es [])) count
    ∙ sym (members-plan T frame c.args.naming es c.args.first.now c.requires.path c.requires.first c.requires.placed))
    wanted
    (c.in_ok-fillers.ensures.fillers
    ∙ ap₂ (λ n k. map (filling_of N k) (cond (nat_eq n 0) []
    (flat_map (filler_in T frame c.as_slice.result.now) frame.cells))) wanted placed_all
    ∙ ap (λ cs. map (filling_of N (length (placed frame q))) (cond (nat_eq (need frame q) 0) []
    (flat_map (filler_in T frame cs) frame.cells))) (c.as_slice.ensures.value ∙ c.in_ok-cells.ensures)
    ∙ ap (map (filling_of N (length (placed frame q)))) (sym (fillers-plan T frame ws l)))
