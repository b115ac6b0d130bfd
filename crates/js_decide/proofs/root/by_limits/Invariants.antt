-- No goal so far passes a limit.
use Rattle.std.proofs.Common.{◌≡◌, ℕ, ◌<◌, None}
use Rattle.js_explore.specs.Exploration.{hole_at}
use Rattle.js_explore.specs.ExploredView.{explored_view}
use Rattle.js_decide.proofs.root.by_limits.Given as goal

abbrev pub invariant-loop-number : goal.invariant-loop-number
invariant-loop-number l = (m : ℕ) → m < l.number → hole_at (explored_view l.explored) m ≡ None
