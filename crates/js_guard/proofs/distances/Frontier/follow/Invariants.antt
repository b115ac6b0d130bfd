-- The edges so far are followed, and what is reached stays.
use Rattle.std.proofs.Common.{◌≡◌, ℕ, suc, ◌<◌, ◌≤◌, length, get_or, Some}
use Rattle.js_guard.specs.Distances.{get_distance, item, IsReachingWith}
use Rattle.js_guard.proofs.distances.Frontier.follow.Given as goal

abbrev pub invariant-loop-target : goal.invariant-loop-target
invariant-loop-target l =
    record {
      search : IsReachingWith l.edges l.self l.at;
      at : l.at < length l.self.queue.items;
      here : item l.self.queue.items l.at ≡ l.reached;
      first : item l.self.queue.items 0 ≡ item l.fn.self.queue.items 0;
      so_far : (i : ℕ) → i < l.target-index
          → (d : ℕ) × (get_distance l.self.distances.items (get_or l.target-items i 0) ≡ Some d)
          × (d ≤ suc l.reached.distance);
    }
