-- What is left is still to be added.
use Rattle.std.proofs.Common.{◌≡◌, ◌++◌, map, drop}
use Rattle.js_explore.specs.View.{placed_view, filler_view}
use Rattle.js_waiting.specs.Counts.{member_place, filler_place}
use Rattle.js_waiting.proofs.counts.Counts.new.Given as goal

abbrev pub invariant-loop-member : goal.invariant-loop-member
invariant-loop-member l =
    l.places.items ++ map member_place (map placed_view (drop l.member-index l.members))
    ≡ map member_place (map placed_view l.members)

abbrev pub invariant-loop-filler : goal.invariant-loop-filler
invariant-loop-filler l =
    l.places.items ++ map filler_place (map filler_view (drop l.filler-index l.filler-items))
    ≡ l.initial.places.items ++ map filler_place (map filler_view l.filler-items)
