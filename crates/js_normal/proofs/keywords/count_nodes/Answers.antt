use Rattle.std.proofs.Common.{◌∙◌}
use Rattle.std.proofs.lemmas.Result.{IfOk-equal}
use Rattle.positions.specs.Position.{PropsMin, PropsMax}
use Rattle.js_values.proofs.RunLemmas.{chain-end, run-optional}
use Rattle.js_normal.proofs.keywords.count_nodes.Goals as goal

pub returns : goal.returns
returns c =
    let k = c.deref-objects.result.now in
    rw (← c.deref-objects.ensures) (IfOk-equal c.optional-2.result _ _ _ c.optional-2.ensures
    (run-optional PropsMax k.max_properties _ _ c.max_properties.ensures
    ∙ chain-end _ _ _ _
    (c.in_ok-optional.ensures ∙ run-optional PropsMin k.min_properties _ _ c.min_properties.ensures)))
