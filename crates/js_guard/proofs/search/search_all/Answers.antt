-- All entries are done.
use Rattle.std.proofs.Common.{◌≡◌, sym, subst, arith, true}
use Rattle.schemas.specs.Guarded.{are_ranks}
use Rattle.js_guard.proofs.Resting.{found_ranks, found_least}
use Rattle.js_guard.proofs.search.search_all.Goals as goal

pub returns-in-Some : goal.returns-in-Some
returns-in-Some c =
    let kept = c.loop-root.invariant in
    found_least c.args.edges.now c.loop-root.search c.requires.closed kept.resting
    (λ x h. kept.met x (omega arith)) c.in-Some.entry c.in-Some.is

pub returns : goal.returns
returns c =
    let kept = c.loop-root.invariant in
    subst (λ ranks. are_ranks c.args.edges.now ranks ≡ true) (sym c.in_ok-ranks-in-None.ensures)
    (found_ranks c.args.edges.now c.loop-root.search c.requires.closed kept.resting (λ x h. kept.met x (omega arith))
    c.in-None.is)
