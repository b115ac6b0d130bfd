-- The choices from the index on were added.
use Rattle.std.proofs.Common.{◌≡◌, ◌-◌, ◌≤◌, ◌++◌, reverse}
use Rattle.js_tableau.specs.Progress.{entries}
use Rattle.js_tableau.proofs.visits.add_choices.Given as goal

abbrev pub decreases-loop-index : goal.decreases-loop-index
decreases-loop-index l = l.index

abbrev pub invariant-loop-index : goal.invariant-loop-index
invariant-loop-index l =
    (l.index ≤ l.count) × (reverse l.pending.items ≡ entries l.members l.settled l.rule l.index (l.count - l.index)
    ++ reverse l.fn.pending.items)
