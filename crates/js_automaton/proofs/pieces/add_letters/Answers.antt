use Rattle.std.proofs.Common.{subst}
use Rattle.std.proofs.lemmas.List.{get_or_default}
use Rattle.patterns.specs.CharSet.{has}
use Rattle.js_automaton.specs.Pieces.{HasEach}
use Rattle.js_automaton.proofs.PieceLemmas.{each-next, each-all}
use Rattle.js_automaton.proofs.pieces.add_letters.Goals as goal

pub loop-range-preserved : goal.loop-range-preserved
loop-range-preserved c = (
  (λ x m. c.in_ok-add_span.ensures.old x (c.loop-range.invariant.0 x m)),
  each-next c.loop-range.places.items _ c.as_slice-range-items.result.now c.loop-range.range-index _
      c.loop-range.invariant.1 c.loop-range-test.true
      (get_or_default c.as_slice-range-items.result.now c.loop-range.range-index (0, 0) _ c.loop-range-test.true)
      c.in_ok-add_span.ensures.old c.in_ok-add_span.ensures.each,
)

pub returns-clause-each : goal.returns-clause-each
returns-clause-each c =
    subst (λ rs. HasEach c.loop-range.places.items (has rs)) c.as_slice-range-items.ensures
    (each-all c.loop-range.places.items c.as_slice-range-items.result.now c.loop-range.range-index
    c.loop-range.invariant.1 c.loop-range-test.false)
