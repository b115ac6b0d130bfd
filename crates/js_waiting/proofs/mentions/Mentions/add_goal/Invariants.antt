-- What is left is still to be added.
use Rattle.std.proofs.Common.{◌≡◌, ◌<◌, ◌++◌, ℕ, [], map, drop, length, get_or}
use Rattle.js_explore.specs.NumberedView.{numbered_view}
use Rattle.js_waiting.specs.Mentioned.{mentions_by}
use Rattle.js_waiting.proofs.mentions.Mentions.add_goal.Given as goal

abbrev pub invariant-loop-number : goal.invariant-loop-number
invariant-loop-number l = record {
  goals : length l.self ≡ length l.initial.self;
  mentions : (m : ℕ) → m < length l.initial.self → get_or l.self m []
      ++ mentions_by m l.goal l.number (map numbered_view (drop l.number l.alternatives))
      ≡ get_or l.initial.self m [] ++ mentions_by m l.goal 0 (map numbered_view l.alternatives);
}
