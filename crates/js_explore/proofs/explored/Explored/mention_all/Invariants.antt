-- What is left is still to be mentioned.
use Rattle.std.proofs.Common.{◌≡◌, map, drop}
use Rattle.alternatives.specs.Alternative.{named}
use Rattle.search.specs.Explored.{mention_goals}
use Rattle.js_expansion.specs.AlternativeView.{alternative_view}
use Rattle.js_explore.specs.ExploredView.{found_view}
use Rattle.js_explore.proofs.explored.Explored.mention_all.Given as goal

abbrev pub invariant-loop-alternative : goal.invariant-loop-alternative
invariant-loop-alternative l = record {
  mentioned : mention_goals l.most_goals (found_view l.self)
      (named (map alternative_view (drop l.alternative-index l.alternatives)))
      ≡ mention_goals l.most_goals (found_view l.initial.self) (named (map alternative_view l.alternatives));
  answers : l.self.answers ≡ l.initial.self.answers;
  places : l.self.places ≡ l.initial.self.places;
}
