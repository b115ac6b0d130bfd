use Rattle.std.proofs.Common.{option_map, ◌∙◌}
use Rattle.std.proofs.lemmas.Result.{IfOk-equal}
use Rattle.positions.specs.Position.{Match, LengthMin, LengthMax}
use Rattle.normal_forms.specs.KeywordNodes.{pattern_of}
use Rattle.js_schema.specs.Patterns.{source_of}
use Rattle.js_normal.specs.PatternTrees.{tree_of}
use Rattle.js_values.proofs.RunLemmas.{chain, chain-end, run-optional}
use Rattle.js_normal.proofs.keywords.string_nodes.Goals as goal

pub returns : goal.returns
returns c =
    let k = c.deref-strings.result.now in
    rw (← c.deref-strings.ensures) (IfOk-equal c.optional-3.result _ _ _ c.optional-3.ensures
    (run-optional (λ t. Match (pattern_of tree_of t)) (option_map source_of k.pattern) _ _ c.in_ok-pattern.ensures
    ∙ chain _ _ _ _ _ (c.in_ok-optional.ensures ∙ run-optional LengthMin k.min_length _ _ c.min_length.ensures)
    (chain-end _ _ _ _ (c.in_ok-optional-2.ensures ∙ run-optional LengthMax k.max_length _ _ c.max_length.ensures))))
