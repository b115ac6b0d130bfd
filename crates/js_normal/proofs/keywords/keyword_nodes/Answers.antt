use Rattle.std.proofs.lemmas.Result.{IfOk-equal}
use Rattle.js_values.proofs.RunLemmas.{chain, chain-end}
use Rattle.js_normal.proofs.keywords.keyword_nodes.Goals as goal

pub returns : goal.returns
returns c =
    let k = c.args.keywords.now in
    IfOk-equal c.in_place_nodes.result _ _ _ c.in_place_nodes.ensures
    (chain _ _ _ _ _ c.in_ok-any_nodes.ensures
    (chain _ _ _ _ _ c.in_ok-number_nodes.ensures
    (chain _ _ _ _ _ c.in_ok-string_nodes.ensures
    (chain _ _ _ _ _ c.in_ok-array_nodes.ensures
    (chain _ _ _ _ _ c.in_ok-member_nodes.ensures
    (chain-end _ _ _ _ c.in_ok-count_nodes.ensures))))))
