-- The goals from the place on were looked at.
use Rattle.std.proofs.Common.{◌≡◌, List, true, length}
use Rattle.goals.specs.Signed.{Signed}
use Rattle.alternatives.specs.Expansion.{Expansion}
use Rattle.search.specs.Rounds.{round}
use Rattle.js_explore.specs.Exploration.{Explores}
use Rattle.js_explore.specs.ExploredView.{explored_view}
use Rattle.js_rounds.specs.State.{AreRounds}
use Rattle.js_rounds.proofs.Using.{Back}
use Rattle.js_rounds.proofs.rounds.Rounds.used.Given as goal

abbrev pub invariant-loop-place : goal.invariant-loop-place
invariant-loop-place l = record {
  same : length l.marks.items ≡ length l.self.known.items;
  back : (expansion : List Signed → Expansion) → Explores expansion (explored_view l.explored)
      → AreRounds expansion (explored_view l.explored).found l.self
      → (reached : round expansion (explored_view l.explored).found (length (explored_view l.explored).found.goals)
      l.goal
      ≡ true)
      → Back expansion (explored_view l.explored).found l.goal reached l.place l.marks.items l.found.items;
}
