-- What is formed is taken.
use Rattle.std.proofs.Common.{◌≡◌, ◌<◌, length, map, true, sym, ◌∙◌, subst, arith}
use Rattle.js_algebra.specs.View.{signed_view, are_in_table}
use Rattle.expander_laws.proofs.Laws.{formed_taken}
use Rattle.search_tests.proofs.expander.goal.Goals as goal

pub returns-in-Some : goal.returns-in-Some
returns-in-Some c =
    let core = c.args.core.now in
    let filled : 0 < length core.positions = omega (arith, c.if-len-eq0.false, c.len.ensures.value) in
    let taken = map signed_view c.as_slice.result.now in
    formed_taken core.positions core.ranks c.len.ensures.table filled taken c.in-Some.goal
    (sym c.in_ok-goal.ensures.goal ∙ c.in-Some.is)
    (subst (λ z. are_in_table core.positions (map signed_view z) ≡ true) (sym c.as_slice.ensures.value)
    c.loop-plus.invariant)
