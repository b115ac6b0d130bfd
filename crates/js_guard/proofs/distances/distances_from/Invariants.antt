-- The edges of the entries so far are followed.
use Rattle.std.proofs.Common.{◌≡◌, ◌-◌, length}
use Rattle.js_guard.specs.Distances.{item, IsReachingWith}
use Rattle.js_guard.proofs.distances.distances_from.Given as goal

abbrev pub invariant-loop-at : goal.invariant-loop-at
invariant-loop-at l =
    record {
      search : IsReachingWith l.edges l.frontier l.at;
      first : (item l.frontier.queue.items 0).entry ≡ l.first;
    }

abbrev pub decreases-loop-at : goal.decreases-loop-at
decreases-loop-at l = length l.edges - l.at
