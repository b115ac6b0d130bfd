use Rattle.std.proofs.Common.{◌∙◌}
use Rattle.std.proofs.lemmas.Result.{IfOk-equal}
use Rattle.positions.specs.Position.{NamesIn}
use Rattle.js_values.proofs.RunLemmas.{chain, chain-end, run-optional}
use Rattle.js_normal.proofs.keywords.member_nodes.Goals as goal

pub returns : goal.returns
returns c =
    let k = c.deref-objects.result.now in
    let others = rw (← c.deref-objects.ensures) at c.in_ok-additional.ensures in
    rw (← c.deref-objects.ensures) (IfOk-equal c.dependencies.result _ _ _ c.dependencies.ensures
    (chain _ _ _ _ _ c.in_ok-required.ensures
    (chain _ _ _ _ _ c.in_ok-properties.ensures
    (chain _ _ _ _ _ c.in_ok-pattern_properties.ensures
    (chain _ _ _ _ _ (c.in_ok-optional.ensures ∙ run-optional _ k.additional_properties _ _ others)
    (chain-end _ _ _ _
    (c.in_ok-optional-2.ensures ∙ run-optional NamesIn k.property_names _ _ c.property_names.ensures)))))))
