-- One place after another.
use Rattle.std.proofs.Common.{◌≡◌, ◌<◌, [], length, get_or, ap, sym, ◌∙◌, subst, arith}
use Rattle.list_laws.specs.In.{IsIn}
use Rattle.list_laws.proofs.Lists.{get_or-in}
use Rattle.js_waiting.specs.Mentioned.{mention}
use Rattle.js_rounds.proofs.rounds.Rounds.take_goal.Goals as goal

pub bounds-of-place : goal.bounds-of-place
bounds-of-place g c =
    let l = c.loop-place-test.true in
    let same = ap length (c.of.ensures ∙ ap (λ t. get_or t c.args.goal []) c.loop-place.invariant.keeps.mentions
    ∙ sym c.of-place-end.ensures) in
    omega (arith, l, same)

pub count_place-requires-clause-goal : goal.count_place-requires-clause-goal
count_place-requires-clause-goal g c =
    let l = c.loop-place-test.true in
    let k = c.loop-place.invariant.keeps in
    let same : c.of.result.now ≡ get_or c.args.self.now.mentions c.args.goal [] =
    c.of.ensures ∙ ap (λ t. get_or t c.args.goal []) k.mentions in
    let u = get_or c.of.result.now c.loop-place.place (mention 0 0 0) in
    let low = c.requires.goals u (subst (λ us. IsIn u us) same
    (get_or-in c.of.result.now c.loop-place.place (mention 0 0 0)
    (omega (arith, l, ap length (same ∙ sym c.of-place-end.ensures))))) in
    omega (arith, low, k.known)
