-- An answer in place of another.
use Rattle.std.proofs.Common.{◌≡◌, ℕ, Some, None, get_or, is_some, cond, sym, ap, ◌∙◌, rules, arith, length-set}
use Rattle.js_rounds.proofs.Answered.{noted_same, answered_same}
use Rattle.js_rounds.proofs.rounds.Rounds.tell.Goals as goal
use Rattle.std.proofs.lemmas.List.{get_or_default}

pub returns-then-alternative-first-clause-roomy : goal.returns-then-alternative-first-clause-roomy
returns-then-alternative-first-clause-roomy c =
    let known = c.args.self.now.known.items in
    let a : ℕ × ℕ = (c.in-Some.least, c.args.alternative) in
    let b : ℕ × ℕ = (c.in-Some.least, c.in-Some.first) in
    let was : get_or known c.args.goal None ≡ Some b =
    get_or_default known c.args.goal None c.index.result.now c.requires.goal ∙ sym c.index.ensures ∙ c.in-Some.is in
    let r = c.requires.roomy in
    record {
      known = length-set known c.args.goal (Some a);
      order = r.order;
      count = r.count ∙ sym (answered_same known c.args.goal a b c.requires.goal was);
      noted = λ g. r.noted g ∙ sym (ap (λ t. cond t 1 0) (noted_same known c.args.goal a b c.requires.goal was g));
    }
