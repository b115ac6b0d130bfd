-- One more goal.
use Rattle.std.proofs.Common.{◌+◌, ◌∷◌, [], ◌++◌, length, get_or, map, take, ap, ◌∙◌}
use Rattle.std.specs.String.{string_bytes}
use Rattle.std.proofs.lemmas.List.{map_more}
use Rattle.std.proofs.lemmas.Option.{get_or_from_slice_get}
use Rattle.list_laws.proofs.Lists.{get_or-in}
use Rattle.certificate_lines.specs.Line as L
use Rattle.certificate_lines.specs.Line.{Line}
use Rattle.js_explore.specs.ExploredView.{explored_view}
use Rattle.js_refute.proofs.Writing.{line_behind}
use Rattle.js_refute.proofs.refutation.front.Goals as goal

pub goal-requires : goal.goal-requires
goal-requires c =
    c.requires.numbers (get_or c.args.listed.now c.loop-number.number-index 0)
    (get_or-in c.args.listed.now c.loop-number.number-index 0 c.loop-number-test.true)

pub loop-number-preserved : goal.loop-number-preserved
loop-number-preserved c =
    let gs = (explored_view c.args.explored.now).found.goals in
    let ks = c.args.listed.now in
    let i = c.loop-number.number-index in
    let k = get_or ks i 0 in
    line_behind (string_bytes c.loop-number.text) (string_bytes c.append_goal.new.text)
    (L.Version ∷ L.Goals (length ks) ∷ map (λ k. L.Goal (get_or gs k [])) (take i ks))
    (L.Version ∷ L.Goals (length ks) ∷ map (λ k. L.Goal (get_or gs k [])) (take (i + 1) ks))
    (L.Goal c.goal.result.now) c.loop-number.invariant c.in_ok-append_goal.ensures
    (ap (λ z. L.Version ∷ L.Goals (length ks) ∷ z)
    (map_more (λ k. L.Goal (get_or gs k [])) ks i 0 c.loop-number-test.true
    ∙ ap (λ g. map (λ k. L.Goal (get_or gs k [])) (take i ks) ++ L.Goal g ∷ [])
    (get_or_from_slice_get gs k c.goal.result.now [] c.goal.ensures)))
