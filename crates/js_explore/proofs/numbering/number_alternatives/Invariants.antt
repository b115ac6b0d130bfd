-- What is left is still to be numbered.
use Rattle.std.proofs.Common.{◌≡◌, ◌++◌, map, drop}
use Rattle.search.specs.Rounds as R
use Rattle.js_expansion.specs.AlternativeView.{alternative_view}
use Rattle.js_explore.specs.NumberedView.{numbered_view}
use Rattle.js_explore.proofs.numbering.number_alternatives.Given as goal

abbrev pub invariant-loop-alternative : goal.invariant-loop-alternative
invariant-loop-alternative l =
    map numbered_view l.found.items
    ++ R.numbered l.goals.keys (map alternative_view (drop l.alternative-index l.alternatives))
    ≡ R.numbered l.goals.keys (map alternative_view l.alternatives)
