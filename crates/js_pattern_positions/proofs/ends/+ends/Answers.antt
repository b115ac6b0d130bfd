use Rattle.std.proofs.Common.{◌≡◌, ◌+◌, ◌-◌, ◌*◌, ◌||◌, refl, sym, ◌∙◌, ap, arith}
use Rattle.word_states.specs.Position.{count_of, count_in}
use Rattle.state_laws.specs.Flow.{flag_at}
use Rattle.js_pattern.specs.View.{view}
use Rattle.js_pattern_positions.specs.Walk.{list_nodes}
use Rattle.js_pattern_positions.proofs.Items.{rest-tree, nodes-item}
use Rattle.js_pattern_positions.proofs.Quiet.{ends-none}
use Rattle.js_pattern_positions.proofs.EndsSteps as S
use Rattle.js_pattern_positions.proofs.ends.+ends.Goals as goal

pub ends_item-returns-then-not-begins : goal.ends_item-returns-then-not-begins
ends_item-returns-then-not-begins t c = record {
  ends = ends-none c.args.edges.first c.args.edges.last (flag_at c.args.read.now.flags) (view c.args.re.now)
      c.args.base c.args.begins c.if-not-begins.true (c.has_none_from.ensures c.if-has_none_from.true);
  base = omega (arith, c.count_positions.ensures, c.requires);
}

pub ends_in_turn-ends_item-passed-requires : goal.ends_in_turn-ends_item-passed-requires
ends_in_turn-ends_item-passed-requires t c = (
  omega (
    arith,
    c.decreases,
    ap list_nodes c.as_slice-re-items.ensures.view,
    nodes-item c.as_slice-re-items.result.now c.loop-re.re-index c.re-item.result c.loop-re-test.true c.re-item.is,
  ),
  omega (
    arith,
    c.requires,
    c.loop-re.invariant.count,
    ap count_in c.as_slice-re-items.ensures.view,
    ap count_in
        (rest-tree c.as_slice-re-items.result.now c.loop-re.re-index c.re-item.result c.loop-re-test.true c.re-item.is),
  ),
)

pub ends_of_one-ends_item-passed-requires : goal.ends_of_one-ends_item-passed-requires
ends_of_one-ends_item-passed-requires t c = (
  omega (
    arith,
    c.decreases,
    ap list_nodes c.as_slice-re-items.ensures.view,
    nodes-item c.as_slice-re-items.result.now c.loop-re.re-index c.re-item.result c.loop-re-test.true c.re-item.is,
  ),
  omega (
    arith,
    c.requires,
    c.loop-re.invariant.count,
    ap count_in c.as_slice-re-items.ensures.view,
    ap count_in
        (rest-tree c.as_slice-re-items.result.now c.loop-re.re-index c.re-item.result c.loop-re-test.true c.re-item.is),
  ),
)

pub ends_repeated-loop-i-init : goal.ends_repeated-loop-i-init
ends_repeated-loop-i-init t c = record {
  count = S.left-init c.args.base c.copies-count.result (count_of (view c.args.inner.now));
  first = λ e. refl;
  ends = S.ends-init c.args.edges.first c.args.edges.last (flag_at c.args.read.now.flags) (view c.args.inner.now)
      c.args.times.low c.args.times.high c.args.base c.args.begins c.copies-count.result c.may_end-ends.result
      c.copies-count.ensures c.may_end-ends.ensures;
}

pub ends_repeated-returns-then-passed-base-clause-ends : goal.ends_repeated-returns-then-passed-base-clause-ends
ends_repeated-returns-then-passed-base-clause-ends t c =
    S.ends-nowhere c.args.edges.first c.args.edges.last (flag_at c.args.read.now.flags) (view c.args.inner.now)
    c.args.times.low c.args.times.high c.args.base c.args.begins c.copies-count.result c.loop-i.i c.loop-i.at
    c.loop-i.here c.ends_here-passed.result.ends c.ends_still-ends.result c.copies-count.ensures
    c.loop-i.invariant.count (sym c.if-passed-base.true ∙ c.ends_here-passed.ensures.base) c.loop-i.invariant.first
    c.ends_here-passed.ensures.ends c.ends_still-ends.ensures

pub ends_repeated-returns-then-not-here : goal.ends_repeated-returns-then-not-here
ends_repeated-returns-then-not-here t c =
    let each = count_of (view c.args.inner.now) in
    let size : c.ends_here-passed.result.base - c.loop-i.at ≡ each = omega (arith, c.ends_here-passed.ensures.base) in
    let left = S.left-next c.args.base c.copies-count.result each c.loop-i.i c.loop-i.at
    c.ends_here-passed.result.base c.loop-i-test.true c.loop-i.invariant.count c.ends_here-passed.ensures.base in
    let next = S.ends-next c.args.edges.first c.args.edges.last (flag_at c.args.read.now.flags) (view c.args.inner.now)
    c.args.times.low c.args.times.high c.args.base c.args.begins c.copies-count.result c.loop-i.i c.loop-i.at
    c.ends_here-passed.result.base c.loop-i.here c.ends_here-passed.result.ends c.loop-i.ends _ c.loop-i-test.true
    c.ends_here-passed.ensures.ends c.ends_here-passed.ensures.base
    (ap (λ x. c.loop-i.ends || x) c.may_end-ends-in-loop-i.ensures) c.loop-i.invariant.ends in
    record {
      ends = S.ends-stopped c.args.edges.first c.args.edges.last (flag_at c.args.read.now.flags)
          (view c.args.inner.now) c.args.times.low c.args.times.high c.args.base c.args.begins
          (c.copies-count.result - (c.loop-i.i + 1)) (c.loop-i.i + 1) c.ends_here-passed.result.base
          c.ends_here-passed.result.ends _ c.if-not-here.true (c.has_none_from.ensures c.if-has_none_from.true) next;
      base = ap (λ s. c.ends_here-passed.result.base + (c.copies-count.result - (c.loop-i.i + 1)) * s) size
          ∙ left ∙ ap (λ k. c.args.base + k * each) c.copies-count.ensures;
    }

pub ends_repeated-loop-i-preserved : goal.ends_repeated-loop-i-preserved
ends_repeated-loop-i-preserved t c = record {
  count = S.left-next c.args.base c.copies-count.result (count_of (view c.args.inner.now)) c.loop-i.i c.loop-i.at
      c.ends_here-passed.result.base c.loop-i-test.true c.loop-i.invariant.count c.ends_here-passed.ensures.base;
  first = λ e. absurd (c.if-passed-base.false e);
  ends = S.ends-next c.args.edges.first c.args.edges.last (flag_at c.args.read.now.flags) (view c.args.inner.now)
      c.args.times.low c.args.times.high c.args.base c.args.begins c.copies-count.result c.loop-i.i c.loop-i.at
      c.ends_here-passed.result.base c.loop-i.here c.ends_here-passed.result.ends c.loop-i.ends _ c.loop-i-test.true
      c.ends_here-passed.ensures.ends c.ends_here-passed.ensures.base
      (ap (λ x. c.loop-i.ends || x) c.may_end-ends-in-loop-i.ensures) c.loop-i.invariant.ends;
}
