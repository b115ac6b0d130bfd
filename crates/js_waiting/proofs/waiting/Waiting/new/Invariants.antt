-- The goals below were added.
use Rattle.std.proofs.Common.{◌≡◌, map}
use Rattle.std.specs.List.{range_with_len}
use Rattle.js_explore.specs.Exploration.{alternatives_at}
use Rattle.js_explore.specs.ExploredView.{explored_view}
use Rattle.js_waiting.specs.Counts.{counts_of}
use Rattle.js_waiting.proofs.waiting.Waiting.new.Given as goal

abbrev pub invariant-loop-goal : goal.invariant-loop-goal
invariant-loop-goal l =
    l.goals.items ≡ map (λ n. map counts_of (alternatives_at (explored_view l.explored) n)) (range_with_len 0 l.goal)
