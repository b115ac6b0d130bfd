-- What was taken is settled, and the other members still wait.
use Rattle.std.proofs.Common.{◌≡◌, map, length, true}
use Rattle.js_algebra.specs.View.{signed_view, kind_view}
use Rattle.js_tableau.specs.Walks.{IsCovered, are_settled, Extends}
use Rattle.js_tableau.proofs.walk.Walk.least_unsettled.Given as goal

abbrev pub decreases-loop-x : goal.decreases-loop-x
decreases-loop-x l = length l.self.waiting

abbrev pub invariant-loop-x : goal.invariant-loop-x
invariant-loop-x l =
    IsCovered l.self × (are_settled l.core.positions (kind_view l.kind) l.self.trail
    (map signed_view l.self.settled.items) ≡ true)
    × Extends l.fn.self.settled.items l.self.settled.items × (l.self.trail ≡ l.fn.self.trail)
