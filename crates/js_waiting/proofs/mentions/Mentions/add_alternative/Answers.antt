-- The places of members, and then those of fillers.
use Rattle.std.proofs.Common.{◌≡◌, ◌<◌, ◌++◌, [], map, length, get_or, ap, sym, ◌∙◌, subst, arith}
use Rattle.std.proofs.lemmas.List.{length-map}
use Rattle.js_explore.specs.View.{placed_view}
use Rattle.js_waiting.specs.Mentioned.{mentions_from}
use Rattle.js_waiting.proofs.Mentioning.{on_ok, both_added}
use Rattle.js_waiting.proofs.mentions.Mentions.add_alternative.Goals as goal

pub returns-clause-mentions : goal.returns-clause-mentions
returns-clause-mentions c =
    let a = c.args.alternative.now in
    let h = c.args.goal in
    let n = c.args.number in
    let ms = c.as_slice-members.result.now in
    let first = c.in_ok-add_members.ensures in
    let shown = ap length c.as_slice-members.ensures in
    let members = length-map ms placed_view in
    let goals = length-map a.members (λ x. x.goal) in
    let count : length ms ≡ length (map (λ x. x.goal) a.members) = omega (arith, shown, members, goals) in
    on_ok c.add_fillers.result
    (λ more m l. both_added m h n (length ms) (get_or c.args.self.now m []) (get_or c.add_members.new.self m [])
    (get_or c.add_fillers.new.self m []) (map (λ x. x.goal) a.members) (map (λ x. x.goal) a.fillers) count
    (first.mentions m l ∙ ap (λ xs. get_or c.args.self.now m [] ++ mentions_from m h n 0 (map (λ x. x.goal) xs))
    c.as_slice-members.ensures)
    (more m (subst (λ k. m < k) (sym first.length) l)
    ∙ ap (λ xs. get_or c.add_members.new.self m [] ++ mentions_from m h n (length ms) (map (λ x. x.goal) xs))
    c.as_slice.ensures)) c.add_fillers.ensures.mentions
