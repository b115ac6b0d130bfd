-- The goals below were looked at.
use Rattle.std.proofs.Common.{◌≡◌, List, length, take}
use Rattle.goals.specs.Signed.{Signed}
use Rattle.alternatives.specs.Expansion.{Expansion}
use Rattle.search.specs.Explored.{Found}
use Rattle.js_explore.specs.ExploredView.{explored_view}
use Rattle.js_rounds.specs.State.{IsRoomy}
use Rattle.js_rounds.specs.Waking.{Waking, firsts}
use Rattle.js_rounds.proofs.rounds.Rounds.begin.Given as goal

abbrev pub invariant-loop-goal : goal.invariant-loop-goal
invariant-loop-goal l = record {
  waking : (expansion : List Signed → Expansion) (f : Found)
      → Waking expansion f 0 (firsts (take l.goal l.self.waiting)) l.self;
  roomy : IsRoomy (length (explored_view l.explored).found.goals) l.self;
  has_run : l.self.has_run ≡ l.initial.self.has_run;
  waiting : l.self.waiting ≡ l.initial.self.waiting;
  mentions : l.self.mentions ≡ l.initial.self.mentions;
}
