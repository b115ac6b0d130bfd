use Rattle.std.proofs.Common.{◌∙◌, ◌||◌, ap₂}
use Rattle.std.proofs.lemmas.Result.{IfOk-weaker}
use Rattle.js_automaton.proofs.PieceSetLemmas.{has_halves}
use Rattle.js_automaton.proofs.class_set.+set_of.Goals as goal

pub returns-in_ok-right-in_default : goal.returns-in_ok-right-in_default
returns-in_ok-right-in_default t c =
    IfOk-weaker c.union.result _ _
    (λ both e k. e k
    ∙ ap₂ (λ x y. x || y) (c.in_ok-left-in_default.ensures k) (c.in_ok-right-in_default.ensures k)
    ∙ has_halves _ c.args.ranges.now k) c.union.ensures
