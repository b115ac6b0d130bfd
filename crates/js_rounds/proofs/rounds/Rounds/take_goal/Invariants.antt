-- What is left is still to be counted.
use Rattle.std.proofs.Common.{◌≡◌, ◌+◌, List, [], true, length, get_or, drop}
use Rattle.goals.specs.Signed.{Signed}
use Rattle.alternatives.specs.Expansion.{Expansion}
use Rattle.search.specs.Explored.{Found}
use Rattle.js_waiting.specs.Counts.{waiting}
use Rattle.js_waiting.specs.Mentioned.{can_count, count_all}
use Rattle.js_rounds.specs.State.{IsRoomy}
use Rattle.js_rounds.specs.Waking.{Keeps, Waking, firsts}
use Rattle.js_rounds.proofs.rounds.Rounds.take_goal.Given as goal

abbrev pub invariant-loop-place : goal.invariant-loop-place
invariant-loop-place g l = record {
  waking : (expansion : List Signed → Expansion) (f : Found)
      → Waking expansion f l.round (firsts l.initial.self.waiting) l.initial.self
      → Waking expansion f l.round (firsts l.self.waiting) l.self;
  roomy : IsRoomy (length l.initial.self.known.items) l.self;
  keeps : Keeps l.initial.self l.self;
  waits : can_count (drop l.place (get_or l.initial.self.mentions l.goal [])) l.self.waiting ≡ true;
  counted : count_all (drop l.place (get_or l.initial.self.mentions l.goal [])) l.self.waiting
      ≡ count_all (get_or l.initial.self.mentions l.goal []) l.initial.self.waiting;
  steps : l.steps + waiting l.self.waiting ≡ l.initial.steps + waiting l.initial.self.waiting;
}
