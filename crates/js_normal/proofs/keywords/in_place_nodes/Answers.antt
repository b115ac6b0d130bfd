use Rattle.std.proofs.Common.{◌∙◌}
use Rattle.std.proofs.lemmas.Result.{IfOk-equal}
use Rattle.positions.specs.Position.{All, Any, One, Not}
use Rattle.js_values.proofs.RunLemmas.{chain, chain-end, run-optional}
use Rattle.js_normal.proofs.keywords.in_place_nodes.Goals as goal

pub returns : goal.returns
returns c =
    let k = c.deref-in_place.result.now in
    rw (← c.deref-in_place.ensures) (IfOk-equal c.optional-4.result _ _ _ c.optional-4.ensures
    (run-optional Not k.not _ _ c.not.ensures
    ∙ chain _ _ _ _ _ (c.in_ok-optional.ensures ∙ run-optional All k.all_of _ _ c.in_ok-all_of.ensures)
    (chain _ _ _ _ _ (c.in_ok-optional-2.ensures ∙ run-optional Any k.any_of _ _ c.in_ok-any_of.ensures)
    (chain-end _ _ _ _ (c.in_ok-optional-3.ensures ∙ run-optional One k.one_of _ _ c.in_ok-one_of.ensures)))))
