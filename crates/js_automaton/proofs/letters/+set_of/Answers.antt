use Rattle.std.proofs.Common.{◌∙◌, ◌||◌, ap₂, nat_eq}
use Rattle.std.proofs.lemmas.Result.{IfOk-weaker}
use Rattle.js_automaton.proofs.AlikeLemmas.{halves}
use Rattle.js_automaton.proofs.letters.+set_of.Goals as goal

pub returns-in_ok-right-in_default : goal.returns-in_ok-right-in_default
returns-in_ok-right-in_default t c =
    IfOk-weaker c.union.result _ _
    (λ both e k. e k
    ∙ ap₂ (λ x y. x || y) (c.in_ok-left-in_default.ensures k) (c.in_ok-right-in_default.ensures k)
    ∙ halves (nat_eq k) _ c.args.characters.now) c.union.ensures
