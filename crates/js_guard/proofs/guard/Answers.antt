-- Where there are ranks, there is no cycle, and the other way round.
use Rattle.std.proofs.Common.{◌≡◌, true, refl, sym, subst}
use Rattle.schemas.specs.Guarded.{edges, IsGuarded, IsLeastCycle, are_ranks}
use Rattle.schema_laws.proofs.Ranks.{IsGuarded-ranks}
use Rattle.schema_laws.proofs.Ways.{IsLeastCycle-unguarded}
use Rattle.js_schema.specs.SchemaView.{schema_view}
use Rattle.js_guard.specs.Searching.{Finds}
use Rattle.js_guard.proofs.EdgesLemmas.{ranks-counted}
use Rattle.js_guard.proofs.guard.Goals as goal

pub invariant_of-result : goal.invariant_of-result
invariant_of-result c =
    let es = schema_view c.args.schema in
    let found : are_ranks c.in_ok-edges.edges c.in-Ranked.ranks ≡ true =
    subst (Finds c.in_ok-edges.edges) c.in-Ranked.is c.in_ok-ranks.ensures in
    let falls : are_ranks (edges es) c.in-Ranked.ranks ≡ true =
    subst (λ g. are_ranks g c.in-Ranked.ranks ≡ true) c.in_ok-edges.ensures.edges found in
    record { falls = falls; counted = ranks-counted es c.in-Ranked.ranks falls }

pub returns-in-Ranked : goal.returns-in-Ranked
returns-in-Ranked c =
    let g = c.in_ok-edges.edges in
    let found : are_ranks g c.in-Ranked.ranks ≡ true = subst (Finds g) c.in-Ranked.is c.in_ok-ranks.ensures in
    (refl, subst IsGuarded c.in_ok-edges.ensures.edges (IsGuarded-ranks g c.in-Ranked.ranks found))

pub returns : goal.returns
returns c =
    let es = schema_view c.args.schema in
    let cycle = c.in_ok-cycle-in-Circular.cycle.items in
    let least : IsLeastCycle (edges es) c.from_vec.result =
    subst (IsLeastCycle (edges es)) (sym c.from_vec.ensures)
    (subst (λ g. IsLeastCycle g cycle) c.in_ok-edges.ensures.edges c.in_ok-cycle-in-Circular.ensures) in
    (refl, IsLeastCycle-unguarded (edges es) c.from_vec.result least, least)
