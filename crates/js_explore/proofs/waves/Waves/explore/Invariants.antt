-- As many steps as goals that were taken, and no fewer than waves.
use Rattle.std.proofs.Common.{◌≡◌, ◌≤◌}
use Rattle.search.specs.Explored.{after}
use Rattle.js_explore.specs.Exploration.{GoesOn}
use Rattle.js_explore.specs.ExploredView.{explored_view, found_view}
use Rattle.js_explore.proofs.waves.Waves.explore.Given as goal

abbrev pub invariant-loop-turn : goal.invariant-loop-turn
invariant-loop-turn g l = record {
  steps : found_view l.search ≡ after l.self.most_goals l.self.most_total
      (g.E.Expander.expansion l.self.expander.now) (found_view l.search).taken (found_view l.initial.search);
  most : (found_view l.search).taken ≤ l.self.most_goals;
  turns : l.turn ≤ (found_view l.search).taken;
  goes_on : GoesOn l.self.most_goals l.self.most_total (g.E.Expander.takes l.self.expander.now)
      (g.E.Expander.expansion l.self.expander.now) (explored_view l.search);
}
