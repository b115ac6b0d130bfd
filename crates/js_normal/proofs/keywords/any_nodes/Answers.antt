use Rattle.std.proofs.Common.{map, option_map, ◌∙◌}
use Rattle.std.proofs.lemmas.Result.{IfOk-equal}
use Rattle.positions.specs.Position.{Types}
use Rattle.normal_forms.specs.KeywordNodes.{kinds_of}
use Rattle.js_keywords.specs.TypeView.{type_view}
use Rattle.js_values.proofs.RunLemmas.{chain, chain-end, run-optional}
use Rattle.js_normal.proofs.keywords.any_nodes.Goals as goal

pub returns : goal.returns
returns c =
    let k = c.deref-any.result.now in
    rw (← c.deref-any.ensures) (IfOk-equal c.constant.result _ _ _ c.constant.ensures
    (chain _ _ _ _ _
    (c.in_ok-optional.ensures
    ∙ run-optional (λ ts. Types (kinds_of ts)) (option_map (λ ts. map type_view ts) k.types) _ _ c.in_ok-types.ensures)
    (chain-end _ _ _ _ c.in_ok-enumeration.ensures)))
