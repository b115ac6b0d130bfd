-- The goal is taken.
use Rattle.std.proofs.Common.{◌≡◌, ◌<◌, length, true, sym, ◌∙◌, subst, arith}
use Rattle.js_algebra.specs.View.{signed_view}
use Rattle.expander_laws.specs.Expander.{takes}
use Rattle.alternative_table.proofs.Taken.{first_taken}
use Rattle.alternative_table.proofs.answer.answer_on.Goals as goal

pub expansion_text-requires : goal.expansion_text-requires
expansion_text-requires c =
    let core = c.args.core.now in
    let filled : 0 < length core.positions = omega (arith, c.if-len-eq0.false, c.len.ensures.value) in
    subst (λ k. takes k.positions k.ranks c.in-Some.goal ≡ true) (sym c.new.ensures.core)
    (first_taken core.positions core.ranks c.len.ensures.table filled (signed_view c.plus.result) c.plus.ensures c.in-Some.goal
    (sym c.in_ok-goal.ensures.goal ∙ c.in-Some.is))
