-- What is taken back from the settled ones waits again.
use Rattle.std.proofs.Common.{◌≡◌, ◌≤◌, length, take}
use Rattle.std.specs.Vec.{vec_len}
use Rattle.js_tableau.specs.Walks.{IsCovered}
use Rattle.js_tableau.proofs.walk.Walk.go_back.Given as goal

abbrev pub decreases-loop-self : goal.decreases-loop-self
decreases-loop-self l = vec_len l.self.settled

abbrev pub invariant-loop-self : goal.invariant-loop-self
invariant-loop-self l =
    (l.settled ≤ length l.self.settled.items) × (take l.settled l.self.settled.items ≡ take l.settled
    l.fn.self.settled.items)
    × (l.self.trail ≡ take l.members l.fn.self.trail)
    × (IsCovered l.fn.self → IsCovered l.self)
