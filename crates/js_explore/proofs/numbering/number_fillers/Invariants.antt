-- What is left is still to be numbered.
use Rattle.std.proofs.Common.{◌≡◌, ◌++◌, map, drop}
use Rattle.search.specs.Rounds as R
use Rattle.js_expansion.specs.View as E
use Rattle.js_explore.specs.View.{filler_view}
use Rattle.js_explore.proofs.numbering.number_fillers.Given as goal

abbrev pub invariant-loop-filler : goal.invariant-loop-filler
invariant-loop-filler l =
    map filler_view l.found.items ++ R.number_fillers l.goals.keys (map E.filler_view (drop l.filler-index l.fillers))
    ≡ R.number_fillers l.goals.keys (map E.filler_view l.fillers)
