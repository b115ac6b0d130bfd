-- As many steps as answers that were taken.
use Rattle.std.proofs.Common.{◌≡◌, ◌+◌}
use Rattle.search.specs.Explored.{after}
use Rattle.js_explore.specs.Exploration.{GoesOn}
use Rattle.js_explore.specs.ExploredView.{explored_view, found_view}
use Rattle.js_explore.proofs.waves.Waves.take_all.Given as goal

abbrev pub invariant-loop-answer : goal.invariant-loop-answer
invariant-loop-answer g l = record {
  steps : found_view l.search ≡ after l.self.most_goals l.self.most_total
      (g.E.Expander.expansion l.self.expander.now) l.answer-index (found_view l.initial.search);
  count : (found_view l.search).taken ≡ l.answer-index + (found_view l.initial.search).taken;
  goes_on : GoesOn l.self.most_goals l.self.most_total (g.E.Expander.takes l.self.expander.now)
      (g.E.Expander.expansion l.self.expander.now) (explored_view l.search);
}
