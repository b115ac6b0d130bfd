-- The goal that is reported is the first one with a hole, and after all turns there is none.
use Rattle.std.proofs.Common.{◌≡◌, ◌<◌, ℕ, None, Some, ap, ap₂, sym, ◌∙◌, arith, rules}
use Rattle.decisions.specs.Decision as D
use Rattle.search.specs.Rounds.{hole_of}
use Rattle.js_explore.specs.ExploredView.{found_view}
use Rattle.js_expansion.specs.View.{limit_view}
use Rattle.js_decide.proofs.Holes.{first_is, none_is}
use Rattle.js_decide.proofs.root.by_limits.Goals as goal

pub returns-in-Some : goal.returns-in-Some
returns-in-Some c X h =
    let f = found_view c.args.explored.now in
    let n = c.loop-number.number in
    let same : c.in_ok-goal.goal ≡ c.goal.result.now = search rules in
    let before : (m : ℕ) → m < n → hole_of X f m ≡ None = λ m l. sym (h.hole m) ∙ c.loop-number.invariant m l in
    sym (ap (λ o. D.by_limits o f.over)
    (first_is X f n (limit_view c.in-Some.kind) c.in_ok-goal.goal (c.goal.ensures ∙ ap Some (sym same))
    (sym (c.in-Some.ensures.explored X h)) before))

pub returns-in-Some-over : goal.returns-in-Some-over
returns-in-Some-over c X h =
    let f = found_view c.args.explored.now in
    let end = c.loop-number-test.false in
    let all = c.len-number-end.ensures in
    let none = none_is X f (λ m l. sym (h.hole m) ∙ c.loop-number.invariant m (omega (arith, l, end, all))) in
    sym (ap₂ D.by_limits none (sym c.in-Some-over.ensures))

pub returns-in-None : goal.returns-in-None
returns-in-None c X h =
    let f = found_view c.args.explored.now in
    let end = c.loop-number-test.false in
    let all = c.len-number-end.ensures in
    let none = none_is X f (λ m l. sym (h.hole m) ∙ c.loop-number.invariant m (omega (arith, l, end, all))) in
    sym (ap₂ D.by_limits none (sym c.in-None.ensures))
