-- What is left is still to be added.
use Rattle.std.proofs.Common.{◌≡◌, ◌++◌, map, drop}
use Rattle.search.specs.Uses.{added_fillers}
use Rattle.js_explore.specs.View.{filler_view}
use Rattle.js_rounds.specs.Seen.{seen}
use Rattle.js_rounds.specs.Spread.{spread}
use Rattle.js_rounds.proofs.runs.add_fillers.Given as goal

abbrev pub invariant-loop-filler : goal.invariant-loop-filler
invariant-loop-filler l =
    spread l.found.items
    ++ added_fillers (seen l.known l.round) l.left (map filler_view (drop l.filler-index l.fillers))
    ≡ spread l.initial.found.items ++ added_fillers (seen l.known l.round) l.need (map filler_view l.fillers)
