-- One member after another.
use Rattle.std.proofs.Common.{◌++◌, ◌∷◌, [], map, drop, get_or, ◌+◌, ap, sym, ◌∙◌}
use Rattle.std.proofs.lemmas.List.{append_assoc}
use Rattle.js_expansion.specs.declared.alternative.Slot.TheVariants.{Index}
use Rattle.js_explore.specs.View.{placed_view}
use Rattle.js_rounds.specs.Spread.{spread}
use Rattle.js_rounds.proofs.SpreadLemmas.{spread_push, next_left}
use Rattle.js_rounds.proofs.runs.runs.Goals as goal

pub loop-member-preserved : goal.loop-member-preserved
loop-member-preserved c =
    let ms = c.as_slice-member-items.result.now in
    let i = c.loop-member.member-index in
    let m = get_or ms i (record { slot = Index 0; goal = 0 }) in
    let rest = map placed_view (drop (i + 1) ms) in
    ap (λ xs. spread xs ++ rest) c.in_ok-push.ensures.items
    ∙ ap (λ l. l ++ rest) (spread_push c.loop-member.found.items (record { slot = m.slot; goal = m.goal; count = 1 }))
    ∙ append_assoc (spread c.loop-member.found.items) (placed_view m ∷ []) rest
    ∙ ap (λ xs. spread c.loop-member.found.items ++ map placed_view xs)
    (sym (next_left ms i (record { slot = Index 0; goal = 0 }) c.loop-member-test.true))
    ∙ c.loop-member.invariant
