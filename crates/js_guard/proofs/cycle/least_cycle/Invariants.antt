-- The walk so far, of which the next entry is known.
use Rattle.js_guard.specs.Distances.{get_distance}
use Rattle.js_guard.proofs.Walking.{IsWalk, steps_of}
use Rattle.js_guard.proofs.cycle.least_cycle.Given as goal

abbrev pub invariant-loop-next : goal.invariant-loop-next
invariant-loop-next l = IsWalk l.edges l.first l.distances.items l.cycle.items l.next

abbrev pub decreases-loop-next : goal.decreases-loop-next
decreases-loop-next l = steps_of (get_distance l.distances.items l.next)
