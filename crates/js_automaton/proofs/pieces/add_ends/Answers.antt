use Rattle.std.proofs.lemmas.List.{get_or_default}
use Rattle.js_automaton.proofs.PieceLemmas.{says-next, kept-push}
use Rattle.js_automaton.proofs.pieces.add_ends.Goals as goal

pub loop-range-preserved : goal.loop-range-preserved
loop-range-preserved c = (
  kept-push _ _ _ _ (kept-push _ _ _ _ c.loop-range.invariant.0 c.in_ok-push.ensures.items)
      c.in_ok-push-2.ensures.items,
  says-next c.loop-range.places.items _ _ c.as_slice-range-items.result.now c.loop-range.range-index _ _
      c.loop-range.invariant.1 c.loop-range-test.true
      (get_or_default c.as_slice-range-items.result.now c.loop-range.range-index (0, 0) _ c.loop-range-test.true)
      c.in_ok-push.ensures.items c.in_ok-push-2.ensures.items
      c.saturating_add.ensures,
)
