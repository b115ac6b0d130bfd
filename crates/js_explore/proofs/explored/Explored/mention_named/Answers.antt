-- Members are mentioned, and then fillers.
use Rattle.std.proofs.Common.{map, refl, ap, sym, ◌∙◌}
use Rattle.search.specs.Explored.{mention_goals}
use Rattle.js_expansion.specs.View.{placed_view, filler_view}
use Rattle.js_explore.specs.ExploredView.{found_view}
use Rattle.js_explore.proofs.Turns.{mention_both, mention_end}
use Rattle.js_explore.proofs.explored.Explored.mention_named.Goals as goal

pub returns-clause-found : goal.returns-clause-found
returns-clause-found c =
    let M = mention_goals c.args.most_goals in
    let s = found_view c.args.self.now in
    let t = found_view c.loop-member.self in
    let a = c.args.alternative.now in
    let ms =
    mention_end c.args.most_goals (λ ms. map (λ m. m.goal) (map placed_view ms)) refl t
    (M s (map (λ m. m.goal) (map placed_view c.as_slice-member-items.result.now)))
    c.as_slice-member-items.result.now c.loop-member.member-index c.loop-member-test.false
    c.loop-member.invariant.mentioned
    ∙ ap (λ ms. M s (map (λ m. m.goal) ms)) c.as_slice-member-items.ensures in
    let fs =
    mention_end c.args.most_goals (λ fs. map (λ f. f.goal) (map filler_view fs)) refl
    (found_view c.loop-filler.self)
    (M t (map (λ f. f.goal) (map filler_view c.as_slice-filler-items.result.now)))
    c.as_slice-filler-items.result.now c.loop-filler.filler-index c.loop-filler-test.false
    c.loop-filler.invariant.mentioned
    ∙ ap (λ fs. M t (map (λ f. f.goal) fs)) c.as_slice-filler-items.ensures in
    fs ∙ ap (λ u. M u (map (λ f. f.goal) a.fillers)) ms
    ∙ sym (mention_both c.args.most_goals s (map (λ m. m.goal) a.members) (map (λ f. f.goal) a.fillers))
