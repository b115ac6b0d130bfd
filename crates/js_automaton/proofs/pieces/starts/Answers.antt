use Rattle.std.proofs.lemmas.List.Filters.{dedup_is}
use Rattle.js_automaton.proofs.PieceLemmas.{rising-sorted, kept-sorted, places-kept}
use Rattle.js_automaton.proofs.pieces.starts.Goals as goal

pub returns-clause-order : goal.returns-clause-order
returns-clause-order c =
    rising-sorted c.sort_unstable.new.self.items _ c.sort_unstable.ensures.sorted
    (dedup_is _ _ _ c.dedup.ensures.filtered)

pub returns-clause-places : goal.returns-clause-places
returns-clause-places c =
    places-kept c.in_ok-places.places.items _ _
    (kept-sorted c.in_ok-places.places.items c.sort_unstable.new.self.items _ c.sort_unstable.ensures.permutation
    (dedup_is _ _ _ c.dedup.ensures.filtered))
    c.in_ok-places.ensures
