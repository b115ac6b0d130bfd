-- Found so far, and what is waiting; each turn takes one that waits, for those that weren't seen.
use Rattle.std.proofs.Common.{◌+◌, length, reverse}
use Rattle.name_laws.specs.Searches.{IsSearch, unseen}
use Rattle.js_algebra.specs.View.{places}
use Rattle.js_tableau.proofs.reached.reached.Given as goal

abbrev pub invariant-loop-q : goal.invariant-loop-q
invariant-loop-q l =
    IsSearch l.core.positions l.core.ranks l.fn.p.0 l.found.keys (reverse (places l.waiting.items))

abbrev pub decreases-loop-q : goal.decreases-loop-q
decreases-loop-q l = unseen l.found.keys 0 l.core.positions + length (reverse (places l.waiting.items))
