-- The rounds so far, and the goals of the last one that were taken.
use Rattle.std.proofs.Common.{◌≡◌, ◌≤◌, ◌+◌, ◌-◌, List, length, take}
use Rattle.goals.specs.Signed.{Signed}
use Rattle.alternatives.specs.Expansion.{Expansion}
use Rattle.search.specs.Uses.{in_order}
use Rattle.js_explore.specs.Exploration.{Explores}
use Rattle.js_explore.specs.ExploredView.{explored_view}
use Rattle.js_waiting.specs.Counts.{all_places, waiting}
use Rattle.js_rounds.specs.State.{IsRoomy}
use Rattle.js_rounds.specs.Waking.{IsTaken, Waking, firsts}
use Rattle.js_rounds.proofs.rounds.Rounds.run_all.Given as goal

abbrev pub invariant-loop-round : goal.invariant-loop-round
invariant-loop-round g l = record {
  waking : (expansion : List Signed → Expansion) → Explores expansion (explored_view l.explored)
      → Waking expansion (explored_view l.explored).found (l.round - 1) (firsts l.self.waiting) l.self;
  order : (expansion : List Signed → Expansion) → Explores expansion (explored_view l.explored)
      → take l.from l.self.order.items ≡ in_order expansion (explored_view l.explored).found (l.round - 1);
  roomy : IsRoomy (length (explored_view l.explored).found.goals) l.self;
  low : l.from ≤ l.self.count;
  taken : IsTaken (explored_view l.explored) l.from l.self;
  steps : l.steps + waiting l.self.waiting ≡ l.initial.steps + all_places (explored_view l.explored);
}

abbrev pub invariant-loop-place : goal.invariant-loop-place
invariant-loop-place g l = record {
  waking : (expansion : List Signed → Expansion) → Explores expansion (explored_view l.explored)
      → Waking expansion (explored_view l.explored).found l.round (firsts l.self.waiting) l.self;
  order : (expansion : List Signed → Expansion) → Explores expansion (explored_view l.explored)
      → take l.to l.self.order.items ≡ in_order expansion (explored_view l.explored).found l.round;
  roomy : IsRoomy (length (explored_view l.explored).found.goals) l.self;
  low : l.to ≤ l.self.count;
  taken : IsTaken (explored_view l.explored) l.place l.self;
  steps : l.steps + waiting l.self.waiting ≡ l.fn.steps + all_places (explored_view l.explored);
}
