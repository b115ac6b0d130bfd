-- What was found, its leaves in order and the others by rank.
use Rattle.std.proofs.Common.{filter, not, ap, ◌∙◌}
use Rattle.positions.specs.Position.{position_at}
use Rattle.name_laws.specs.Plans.{is_leaf}
use Rattle.js_algebra.specs.View.{places}
use Rattle.js_tableau.proofs.Planned.{is-plan, plan-atoms, plan-distinct, sorted-rising}
use Rattle.js_tableau.proofs.name_plan.NamePlan.new.Goals as goal

pub returns-clause-plan : goal.returns-clause-plan
returns-clause-plan c =
    let T = c.args.core.now.positions in
    let ranks = c.args.core.now.ranks in
    is-plan T ranks c.len-length.ensures.table c.args.p.0 c.in_ok-found.found.keys
    (places c.in_ok-leaves.leaves.items) c.in_ok-others.others.items c.by_rank.result.items c.in_ok-found.ensures
    (c.in_ok-leaves.ensures ∙ ap (λ xs. filter (λ q. is_leaf (position_at T q)) xs) c.as_slice.ensures.keys)
    (c.in_ok-others.ensures.places
    ∙ ap (λ xs. filter (λ q. not (is_leaf (position_at T q))) xs) c.as_slice-2.ensures.keys)
    c.by_rank.ensures.same
    (sorted-rising ranks c.in_ok-others.others.items c.by_rank.result.items c.by_rank.ensures.same
    c.in_ok-others.ensures.ranks c.by_rank.ensures.order)

pub returns-clause-rising : goal.returns-clause-rising
returns-clause-rising c =
    sorted-rising c.args.core.now.ranks c.in_ok-others.others.items c.by_rank.result.items c.by_rank.ensures.same
    c.in_ok-others.ensures.ranks c.by_rank.ensures.order

pub returns-clause-distinct : goal.returns-clause-distinct
returns-clause-distinct c =
    let T = c.args.core.now.positions in
    plan-distinct T c.in_ok-found.found.keys (places c.in_ok-leaves.leaves.items) c.in_ok-others.others.items
    c.by_rank.result.items c.as_slice.ensures.unique
    (c.in_ok-leaves.ensures ∙ ap (λ xs. filter (λ q. is_leaf (position_at T q)) xs) c.as_slice.ensures.keys)
    (c.in_ok-others.ensures.places
    ∙ ap (λ xs. filter (λ q. not (is_leaf (position_at T q))) xs) c.as_slice-2.ensures.keys)
    c.by_rank.ensures.same

pub returns-clause-atoms : goal.returns-clause-atoms
returns-clause-atoms c =
    let T = c.args.core.now.positions in
    plan-atoms T c.args.p.0 c.in_ok-found.found.keys (places c.in_ok-leaves.leaves.items) c.in_ok-found.ensures
    (c.in_ok-leaves.ensures ∙ ap (λ xs. filter (λ q. is_leaf (position_at T q)) xs) c.as_slice.ensures.keys)
