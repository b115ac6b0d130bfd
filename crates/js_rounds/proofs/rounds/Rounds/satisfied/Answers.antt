-- What the answer says.
use Rattle.std.proofs.Common.{◌≡◌, None, subst, sym, ◌∙◌, rules}
use Rattle.js_rounds.specs.State.{IsLeast, answer_to}
use Rattle.js_rounds.proofs.Rounding.{satisfied_least}
use Rattle.js_rounds.proofs.rounds.Rounds.satisfied.Goals as goal

pub returns-in-Some-clause-meaning : goal.returns-in-Some-clause-meaning
returns-in-Some-clause-meaning c X f h =
    let known : answer_to c.args.self.now c.args.goal ≡ c.in-Some.answer.now = search rules in
    subst (λ o. IsLeast X f c.args.goal o) (sym (h.answers c.args.goal) ∙ known) (satisfied_least X f c.args.goal)

pub returns-in-None-clause-meaning : goal.returns-in-None-clause-meaning
returns-in-None-clause-meaning c X f h =
    let known : answer_to c.args.self.now c.args.goal ≡ None = search rules in
    subst (λ o. IsLeast X f c.args.goal o) (sym (h.answers c.args.goal) ∙ known) (satisfied_least X f c.args.goal)
