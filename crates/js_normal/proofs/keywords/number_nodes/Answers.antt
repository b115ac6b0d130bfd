use Rattle.std.proofs.Common.{◌+ℤ◌, ◌-ℤ◌, pos, ◌∙◌}
use Rattle.std.proofs.lemmas.Result.{IfOk-equal}
use Rattle.positions.specs.Position.{NumMin, NumMax, Multiple}
use Rattle.js_values.proofs.RunLemmas.{chain, chain-end, run-optional}
use Rattle.js_normal.proofs.keywords.number_nodes.Goals as goal

pub returns : goal.returns
returns c =
    let k = c.deref-numbers.result.now in
    rw (← c.deref-numbers.ensures) (IfOk-equal c.optional-5.result _ _ _ c.optional-5.ensures
    (run-optional (λ n. NumMax (n -ℤ pos 1)) k.exclusive_maximum _ _ c.exclusive_maximum.ensures
    ∙ chain _ _ _ _ _ (c.in_ok-optional.ensures ∙ run-optional Multiple k.multiple_of _ _ c.multiple_of.ensures)
    (chain _ _ _ _ _ (c.in_ok-optional-2.ensures ∙ run-optional NumMin k.minimum _ _ c.minimum.ensures)
    (chain _ _ _ _ _
    (c.in_ok-optional-3.ensures
    ∙ run-optional (λ n. NumMin (n +ℤ pos 1)) k.exclusive_minimum _ _ c.exclusive_minimum.ensures)
    (chain-end _ _ _ _ (c.in_ok-optional-4.ensures ∙ run-optional NumMax k.maximum _ _ c.maximum.ensures))))))
