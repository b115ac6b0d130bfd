-- What is left is still to be added.
use Rattle.std.proofs.Common.{◌≡◌, ◌<◌, ◌++◌, ℕ, [], map, drop, length, get_or}
use Rattle.js_explore.specs.View.{placed_view}
use Rattle.js_waiting.specs.Mentioned.{mentions_from}
use Rattle.js_waiting.proofs.mentions.Mentions.add_members.Given as goal

abbrev pub invariant-loop-place : goal.invariant-loop-place
invariant-loop-place l = record {
  goals : length l.self ≡ length l.initial.self;
  mentions : (m : ℕ) → m < length l.initial.self → get_or l.self m []
      ++ mentions_from m l.goal l.number l.place (map (λ x. x.goal) (map placed_view (drop l.place l.members)))
      ≡ get_or l.initial.self m []
      ++ mentions_from m l.goal l.number 0 (map (λ x. x.goal) (map placed_view l.members));
}
