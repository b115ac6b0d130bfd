-- What is left is still to be numbered.
use Rattle.std.proofs.Common.{◌≡◌, map, drop}
use Rattle.search.specs.Rounds as R
use Rattle.js_expansion.specs.View as E
use Rattle.js_explore.specs.View.{placed_view}
use Rattle.js_explore.proofs.Front.{front}
use Rattle.js_explore.proofs.numbering.number_members.Given as goal

abbrev pub invariant-loop-member : goal.invariant-loop-member
invariant-loop-member l =
    front (map placed_view l.found.items)
    (R.number_members l.goals.keys (map E.placed_view (drop l.member-index l.members)))
    ≡ R.number_members l.goals.keys (map E.placed_view l.members)
