-- As many steps as turns.
use Rattle.std.proofs.Common.{◌≡◌}
use Rattle.search.specs.Explored.{after}
use Rattle.js_explore.specs.Exploration.{GoesOn}
use Rattle.js_explore.specs.ExploredView.{explored_view, found_view}
use Rattle.js_explore.proofs.exploring.explore_alone.Given as goal

abbrev pub invariant-loop-turn : goal.invariant-loop-turn
invariant-loop-turn g l = record {
  steps : found_view l.search ≡ after l.most_goals l.most_total (g.E.Expander.expansion l.expander) l.turn
      (found_view l.initial.search);
  goes_on : GoesOn l.most_goals l.most_total (g.E.Expander.takes l.expander) (g.E.Expander.expansion l.expander)
      (explored_view l.search);
}
