-- One more goal.
use Rattle.std.proofs.Common.{◌++◌, [], ◌∷◌, map, ap, ap₂, sym, ◌∙◌, arith}
use Rattle.std.proofs.lemmas.List.FromFn.{map-range_with_len_more}
use Rattle.js_explore.specs.Exploration.{alternatives_at}
use Rattle.js_explore.specs.ExploredView.{explored_view}
use Rattle.js_waiting.specs.Counts.{counts_of}
use Rattle.js_waiting.proofs.waiting.Waiting.new.Goals as goal

pub loop-goal-preserved : goal.loop-goal-preserved
loop-goal-preserved c =
    let e = explored_view c.args.explored.now in
    c.in_ok-push.ensures.items
    ∙ ap₂ (λ xs x. xs ++ x ∷ []) c.loop-goal.invariant
    (c.in_ok-new.ensures ∙ ap (map counts_of) c.alternatives.ensures.value)
    ∙ sym (map-range_with_len_more (λ n. map counts_of (alternatives_at e n)) 0 c.loop-goal.goal c.loop-goal.goal
    (omega arith))
