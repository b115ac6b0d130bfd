-- The parts so far, and the numbers of their goals.
use Rattle.std.proofs.Common.{◌≡◌, ◌<◌, ◌+◌, true, length}
use Rattle.search.specs.Rounds.{round}
use Rattle.search_laws.proofs.Building.{Made}
use Rattle.expander_laws.specs.Expander.{words_by}
use Rattle.js_explore.specs.ExploredView.{explored_view}
use Rattle.js_rounds.proofs.rounds.Rounds.witness.Given as goal

abbrev pub invariant-loop-place : goal.invariant-loop-place
invariant-loop-place g l = record {
  made : (reached : round (g.E.Expander.expansion l.expander) (explored_view l.explored).found
      (length (explored_view l.explored).found.goals) l.goal ≡ true)
      → Made (words_by (g.E.Expander.cells l.expander)) (g.E.Expander.expansion l.expander) (explored_view
      l.explored).found
      l.goal reached l.place l.parts l.places.items;
  count : length l.parts ≡ l.place;
  room : length l.places.items ≡ length (explored_view l.explored).found.goals;
  last : 0 < l.place → l.last.0 + 1 ≡ l.place;
}
