-- What is left is still to be added.
use Rattle.std.proofs.Common.{◌≡◌, ◌++◌, map, drop}
use Rattle.js_explore.specs.View.{placed_view}
use Rattle.js_rounds.specs.Spread.{spread}
use Rattle.js_rounds.proofs.runs.runs.Given as goal

abbrev pub invariant-loop-member : goal.invariant-loop-member
invariant-loop-member l =
    spread l.found.items ++ map placed_view (drop l.member-index l.member-items) ≡ map placed_view l.member-items
