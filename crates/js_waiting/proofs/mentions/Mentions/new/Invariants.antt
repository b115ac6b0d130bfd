-- The goals below were added.
use Rattle.std.proofs.Common.{◌≡◌, ◌<◌, ℕ, [], flat_map, length, get_or}
use Rattle.std.specs.List.{range_with_len}
use Rattle.js_explore.specs.Exploration.{alternatives_at}
use Rattle.js_explore.specs.ExploredView.{explored_view}
use Rattle.js_waiting.specs.Mentioned.{mentions_by}
use Rattle.js_waiting.proofs.mentions.Mentions.new.Given as goal

abbrev pub invariant-loop-goal : goal.invariant-loop-goal
invariant-loop-goal l = record {
  goals : length l.mentions ≡ length (explored_view l.explored).found.goals;
  mentions : (m : ℕ) → m < length (explored_view l.explored).found.goals → get_or l.mentions m []
      ≡ flat_map (λ h. mentions_by m h 0 (alternatives_at (explored_view l.explored) h)) (range_with_len 0 l.goal);
}
