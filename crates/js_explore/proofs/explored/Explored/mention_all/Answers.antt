-- One alternative after another.
use Rattle.std.proofs.Common.{map, refl, ◌∙◌}
use Rattle.alternatives.specs.Alternative.{named, named_by}
use Rattle.search.specs.Explored.{mention_goals}
use Rattle.js_expansion.specs.AlternativeView.{alternative_view}
use Rattle.js_explore.specs.ExploredView.{found_view}
use Rattle.js_explore.proofs.Turns.{mention_turn}
use Rattle.js_explore.proofs.explored.Explored.mention_all.Goals as goal

pub loop-alternative-preserved : goal.loop-alternative-preserved
loop-alternative-preserved c = record {
  mentioned = mention_turn c.args.most_goals (λ bs. named (map alternative_view bs))
      (λ b. named_by (alternative_view b)) (λ b bs. refl) (found_view c.loop-alternative.self)
      (found_view c.mention_named.new.self)
      (mention_goals c.args.most_goals (found_view c.args.self.now)
      (named (map alternative_view c.args.alternatives.now))) c.args.alternatives.now
      c.loop-alternative.alternative-index c.alternative-item.result c.loop-alternative-test.true
      c.alternative-item.is c.in_ok-mention_named.ensures.found c.loop-alternative.invariant.mentioned;
  answers = c.in_ok-mention_named.ensures.answers ∙ c.loop-alternative.invariant.answers;
  places = c.in_ok-mention_named.ensures.places ∙ c.loop-alternative.invariant.places;
}
