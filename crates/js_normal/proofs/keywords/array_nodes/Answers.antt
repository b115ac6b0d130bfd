use Rattle.std.proofs.Common.{◌∙◌}
use Rattle.std.proofs.lemmas.Result.{IfOk-equal}
use Rattle.positions.specs.Position.{Contains, CountMin, CountMax}
use Rattle.js_values.proofs.RunLemmas.{chain, chain-end, run-optional}
use Rattle.js_normal.proofs.keywords.array_nodes.Goals as goal

pub returns : goal.returns
returns c =
    let k = c.deref-arrays.result.now in
    rw (← c.deref-arrays.ensures) (IfOk-equal c.optional-3.result _ _ _ c.optional-3.ensures
    (run-optional CountMax k.max_items _ _ c.max_items.ensures
    ∙ chain _ _ _ _ _ c.in_ok-items.ensures
    (chain _ _ _ _ _ (c.in_ok-optional.ensures ∙ run-optional Contains k.contains _ _ c.contains.ensures)
    (chain-end _ _ _ _ (c.in_ok-optional-2.ensures ∙ run-optional CountMin k.min_items _ _ c.min_items.ensures)))))
