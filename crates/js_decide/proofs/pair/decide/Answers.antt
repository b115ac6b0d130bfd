use Rattle.std.proofs.Common.{[], ◌∷◌, Some, None, ap₂, sym, ◌∙◌, arith}
use Rattle.goals.specs.Goal.{form}
use Rattle.expander_laws.specs.Expander.{words_by}
use Rattle.js_expander.specs.Found.{goal_expansion, cells_at}
use Rattle.js_decide.proofs.Deciding.{root_taken, answer_decided, answer_certified, answer_means, answer_accepted}
use Rattle.js_decide.proofs.Counts.{answer_small, answer_counted}
use Rattle.js_decide.proofs.Shallow.{answer_shallow, clash_shallow}
use Rattle.js_decide.proofs.pair.decide.Goals as goal

pub decide_root-requires-after_bounds : goal.decide_root-requires-after_bounds
decide_root-requires-after_bounds g c κs within =
    root_taken c.args.core.now.positions c.args.core.now.ranks c.len-length.ensures.table c.args.a.0 c.args.b.0
    c.requires.a_in c.requires.b_in c.in-Some.root
    (sym c.in-Some.is ∙ c.in_ok-root.ensures.goal
    ∙ ap₂ (λ x y. form c.args.core.now.positions (x ∷ y ∷ [])) c.plus.ensures c.minus.ensures)

pub returns-in-Some-clause-decided : goal.returns-in-Some-clause-decided
returns-in-Some-clause-decided g c =
    answer_decided c.args.core.now.positions c.args.core.now.ranks c.len-length.ensures.table c.args.a.0 c.args.b.0
    c.requires.a_in c.requires.b_in (Some c.in-Some.root)
    (sym c.in-Some.is ∙ c.in_ok-root.ensures.goal
    ∙ ap₂ (λ x y. form c.args.core.now.positions (x ∷ y ∷ [])) c.plus.ensures c.minus.ensures)
    c.decide_root.result c.decide_root.ensures.decided

pub returns-in-Some-clause-certificate : goal.returns-in-Some-clause-certificate
returns-in-Some-clause-certificate g c =
    answer_certified c.args.core.now.positions c.args.core.now.ranks c.len-length.ensures.table c.args.a.0 c.args.b.0
    c.requires.a_in c.requires.b_in (Some c.in-Some.root)
    (sym c.in-Some.is ∙ c.in_ok-root.ensures.goal
    ∙ ap₂ (λ x y. form c.args.core.now.positions (x ∷ y ∷ [])) c.plus.ensures c.minus.ensures)
    c.decide_root.result c.decide_root.ensures.certificate

pub returns-in-Some-clause-means : goal.returns-in-Some-clause-means
returns-in-Some-clause-means g c =
    answer_means c.args.core.now.positions c.args.core.now.ranks c.len-length.ensures.table c.args.a.0 c.args.b.0
    c.requires.a_in c.requires.b_in (Some c.in-Some.root)
    (sym c.in-Some.is ∙ c.in_ok-root.ensures.goal
    ∙ ap₂ (λ x y. form c.args.core.now.positions (x ∷ y ∷ [])) c.plus.ensures c.minus.ensures)
    c.decide_root.result c.decide_root.ensures.decided

pub returns-in-Some-clause-accepted : goal.returns-in-Some-clause-accepted
returns-in-Some-clause-accepted g c =
    answer_accepted c.args.core.now.positions c.args.core.now.ranks c.len-length.ensures.table c.args.a.0 c.args.b.0
    c.requires.a_in c.requires.b_in (Some c.in-Some.root)
    (sym c.in-Some.is ∙ c.in_ok-root.ensures.goal
    ∙ ap₂ (λ x y. form c.args.core.now.positions (x ∷ y ∷ [])) c.plus.ensures c.minus.ensures)
    (omega (arith, c.len-length.ensures.value, c.len-length.type_inv)) c.decide_root.result
    c.decide_root.ensures.decided
    c.decide_root.ensures.certificate

pub returns-in-None-clause-decided : goal.returns-in-None-clause-decided
returns-in-None-clause-decided g c =
    answer_decided c.args.core.now.positions c.args.core.now.ranks c.len-length.ensures.table c.args.a.0 c.args.b.0
    c.requires.a_in c.requires.b_in None
    (sym c.in-None.is ∙ c.in_ok-root.ensures.goal
    ∙ ap₂ (λ x y. form c.args.core.now.positions (x ∷ y ∷ [])) c.plus.ensures c.minus.ensures)
    c.decide_clash.result (c.decide_clash.ensures.decided (words_by (cells_at c.args.core.now.positions))
    (goal_expansion c.args.core.now.positions))

pub returns-in-None-clause-certificate : goal.returns-in-None-clause-certificate
returns-in-None-clause-certificate g c =
    answer_certified c.args.core.now.positions c.args.core.now.ranks c.len-length.ensures.table c.args.a.0 c.args.b.0
    c.requires.a_in c.requires.b_in None
    (sym c.in-None.is ∙ c.in_ok-root.ensures.goal
    ∙ ap₂ (λ x y. form c.args.core.now.positions (x ∷ y ∷ [])) c.plus.ensures c.minus.ensures)
    c.decide_clash.result (c.decide_clash.ensures.certificate c.args.core.now.positions)

pub returns-in-None-clause-means : goal.returns-in-None-clause-means
returns-in-None-clause-means g c =
    answer_means c.args.core.now.positions c.args.core.now.ranks c.len-length.ensures.table c.args.a.0 c.args.b.0
    c.requires.a_in c.requires.b_in None
    (sym c.in-None.is ∙ c.in_ok-root.ensures.goal
    ∙ ap₂ (λ x y. form c.args.core.now.positions (x ∷ y ∷ [])) c.plus.ensures c.minus.ensures)
    c.decide_clash.result (c.decide_clash.ensures.decided (words_by (cells_at c.args.core.now.positions))
    (goal_expansion c.args.core.now.positions))

pub returns-in-None-clause-accepted : goal.returns-in-None-clause-accepted
returns-in-None-clause-accepted g c =
    answer_accepted c.args.core.now.positions c.args.core.now.ranks c.len-length.ensures.table c.args.a.0 c.args.b.0
    c.requires.a_in c.requires.b_in None
    (sym c.in-None.is ∙ c.in_ok-root.ensures.goal
    ∙ ap₂ (λ x y. form c.args.core.now.positions (x ∷ y ∷ [])) c.plus.ensures c.minus.ensures)
    (omega (arith, c.len-length.ensures.value, c.len-length.type_inv)) c.decide_clash.result
    (c.decide_clash.ensures.decided (words_by (cells_at c.args.core.now.positions))
    (goal_expansion c.args.core.now.positions))
    (c.decide_clash.ensures.certificate c.args.core.now.positions)

pub returns-in-Some-clause-small : goal.returns-in-Some-clause-small
returns-in-Some-clause-small g c =
    answer_small c.args.core.now.positions c.args.core.now.ranks c.len-length.ensures.table c.args.a.0 c.args.b.0
    c.requires.a_in c.requires.b_in c.decide_root.result (returns-in-Some-clause-decided g c)

pub returns-in-Some-clause-shallow : goal.returns-in-Some-clause-shallow
returns-in-Some-clause-shallow g c =
    answer_shallow c.args.core.now.positions c.args.a.0 c.args.b.0 c.in-Some.root
    (sym (sym c.in-Some.is ∙ c.in_ok-root.ensures.goal
    ∙ ap₂ (λ x y. form c.args.core.now.positions (x ∷ y ∷ [])) c.plus.ensures c.minus.ensures))
    c.decide_root.result c.decide_root.ensures.decided c.decide_root.ensures.meets

pub returns-in-Some-clause-counted : goal.returns-in-Some-clause-counted
returns-in-Some-clause-counted g c =
    answer_counted c.args.core.now.positions c.args.core.now.ranks c.len-length.ensures.table c.args.a.0 c.args.b.0
    c.requires.a_in c.requires.b_in c.decide_root.result (returns-in-Some-clause-decided g c)

pub returns-in-None-clause-small : goal.returns-in-None-clause-small
returns-in-None-clause-small g c =
    answer_small c.args.core.now.positions c.args.core.now.ranks c.len-length.ensures.table c.args.a.0 c.args.b.0
    c.requires.a_in c.requires.b_in c.decide_clash.result (returns-in-None-clause-decided g c)

pub returns-in-None-clause-shallow : goal.returns-in-None-clause-shallow
returns-in-None-clause-shallow g c =
    clash_shallow c.args.core.now.positions c.args.a.0 c.args.b.0 c.decide_clash.result
    (c.decide_clash.ensures.decided (words_by (cells_at c.args.core.now.positions))
    (goal_expansion c.args.core.now.positions))

pub returns-in-None-clause-counted : goal.returns-in-None-clause-counted
returns-in-None-clause-counted g c =
    answer_counted c.args.core.now.positions c.args.core.now.ranks c.len-length.ensures.table c.args.a.0 c.args.b.0
    c.requires.a_in c.requires.b_in c.decide_clash.result (returns-in-None-clause-decided g c)
