-- What is left is still to be added.
use Rattle.std.proofs.Common.{◌≡◌, ◌++◌, map, drop}
use Rattle.js_explore.specs.NumberedView.{numbered_view}
use Rattle.js_waiting.specs.Counts.{counts_of}
use Rattle.js_waiting.proofs.counts.CountsList.new.Given as goal

abbrev pub invariant-loop-alternative : goal.invariant-loop-alternative
invariant-loop-alternative l =
    l.items.items ++ map counts_of (map numbered_view (drop l.alternative-index l.alternatives))
    ≡ map counts_of (map numbered_view l.alternatives)
