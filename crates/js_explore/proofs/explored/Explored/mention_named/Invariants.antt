-- What is left is still to be mentioned.
use Rattle.std.proofs.Common.{◌≡◌, map, drop}
use Rattle.search.specs.Explored.{mention_goals}
use Rattle.js_expansion.specs.View.{placed_view, filler_view}
use Rattle.js_explore.specs.ExploredView.{found_view}
use Rattle.js_explore.proofs.explored.Explored.mention_named.Given as goal

abbrev pub invariant-loop-member : goal.invariant-loop-member
invariant-loop-member l = record {
  mentioned : mention_goals l.most_goals (found_view l.self)
      (map (λ m. m.goal) (map placed_view (drop l.member-index l.member-items)))
      ≡ mention_goals l.most_goals (found_view l.initial.self)
      (map (λ m. m.goal) (map placed_view l.member-items));
  answers : l.self.answers ≡ l.initial.self.answers;
  places : l.self.places ≡ l.initial.self.places;
}

abbrev pub invariant-loop-filler : goal.invariant-loop-filler
invariant-loop-filler l = record {
  mentioned : mention_goals l.most_goals (found_view l.self)
      (map (λ f. f.goal) (map filler_view (drop l.filler-index l.filler-items)))
      ≡ mention_goals l.most_goals (found_view l.initial.self)
      (map (λ f. f.goal) (map filler_view l.filler-items));
  answers : l.self.answers ≡ l.initial.self.answers;
  places : l.self.places ≡ l.initial.self.places;
}
