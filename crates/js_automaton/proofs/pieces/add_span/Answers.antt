use Rattle.std.proofs.Common.{arith}
use Rattle.js_automaton.proofs.PieceLemmas.{kept-push, pushed, span-each, span-next}
use Rattle.js_automaton.proofs.pieces.add_span.Goals as goal

pub loop-place-preserved : goal.loop-place-preserved
loop-place-preserved c = (
  kept-push _ _ _ _ c.loop-place.invariant.0 c.in_ok-push.ensures.items,
  span-next c.loop-place.places.items _ c.args.low c.loop-place.place c.loop-place.invariant.1
      c.in_ok-push.ensures.items,
)

pub returns-clause-old : goal.returns-clause-old
returns-clause-old c =
    kept-push _ _ _ _ (kept-push _ _ _ _ c.loop-place.invariant.0 c.in_ok-push-2.ensures.items)
    c.in_ok-push-3.ensures.items

pub returns-clause-each : goal.returns-clause-each
returns-clause-each c =
    let first = kept-push c.loop-place.places.items _ _ _ (λ x m. m) c.in_ok-push-2.ensures.items in
    let both = kept-push _ _ _ _ first c.in_ok-push-3.ensures.items in
    let second = kept-push c.push-2.new.self.items _ _ _ (λ x m. m) c.in_ok-push-3.ensures.items in
    span-each _ c.args.low c.args.high c.loop-place.place _
    (λ x a b. both x (c.loop-place.invariant.1 x a b))
    (omega (arith, c.loop-place-test.false))
    (second c.args.high (pushed _ _ _ c.in_ok-push-2.ensures.items))
    (pushed _ _ _ c.in_ok-push-3.ensures.items)
    c.saturating_add.ensures
