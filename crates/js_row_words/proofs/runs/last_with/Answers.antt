use Rattle.js_row_words.proofs.RunLaws.{in_range_has}
use Rattle.js_row_words.proofs.runs.last_with.Goals as goal
use Rattle.std.proofs.Common.{◌≡◌, true, subst, arith}
use Rattle.patterns.specs.CharSet.{has}

pub returns-then-at-range : goal.returns-then-at-range
returns-then-at-range c = (
  c.if-at-range.true,
  λ d l m. subst (λ z. has z d ≡ true) c.as_slice-range-items.ensures
      (in_range_has c.as_slice-range-items.result.now c.loop-range.range-index d c.loop-range-test.true
      (let a = c.if-range-at.true in omega (arith, a, l)) m),
)
