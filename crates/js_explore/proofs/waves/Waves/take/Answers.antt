-- The expansion is that of the goal that comes next.
use Rattle.std.proofs.Common.{◌≡◌}
use Rattle.std.proofs.lemmas.Result.{on_ok_weaker, IfOk-at_ok}
use Rattle.js_expansion.specs.ExpansionView.{expansion_view}
use Rattle.js_explore.specs.ExploredView.{explored_view}
use Rattle.js_explore.specs.WaveAnswers.{expansion_at}
use Rattle.js_explore.proofs.WaveSteps.{taken_on}
use Rattle.js_explore.proofs.waves.Waves.take.Goals as goal

pub returns-in-Ok-clause-goes_on : goal.returns-in-Ok-clause-goes_on
returns-in-Ok-clause-goes_on g c =
    let expander = c.args.self.now.expander.now in
    let X = g.E.Expander.expansion expander in
    let e = explored_view c.args.search.now in
    let answer =
    IfOk-at_ok (λ x. expansion_view x ≡ expansion_at X e.found.goals e.found.taken) c.in-Ok.is c.requires.answer in
    on_ok_weaker c.take.result
    (taken_on c.args.self.now.most_goals c.args.self.now.most_total X (g.E.Expander.takes expander) e
    (explored_view c.take.new.self) (expansion_view c.in-Ok.expansion) c.requires.goes_on c.requires.next
    (g.met.E.Expander.named_taken expander) answer) c.take.ensures.taken
