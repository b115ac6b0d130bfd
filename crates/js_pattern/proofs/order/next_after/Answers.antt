use Rattle.std.proofs.Common.{◌≡◌, ◌<◌, ℕ, suc, List, ◌∷◌, drop, get_or, add-one, arith, subst}
use Rattle.std.proofs.Math.Seq.{drop-cons}
use Rattle.js_pattern.specs.Order.{NextWithin}
use Rattle.js_pattern.proofs.Spans.{AreLeft, spans, all_left, found, passed, ended}
use Rattle.js_pattern.proofs.order.next_after.Goals as goal

-- the span that is looked at, and those behind it
here : (set : List (ℕ × ℕ)) (c i : ℕ) → i < 9 → AreLeft set c (drop i spans)
    → AreLeft set c (get_or spans i (0, 0) ∷ drop (suc i) spans)
here set c i l left = subst (λ s. AreLeft set c s) (drop-cons spans i (0, 0) l) left

pub loop-span-init : goal.loop-span-init
loop-span-init c = all_left c.args.ranges.now c.args.c c.requires

pub next_within-requires-clause-group : goal.next_within-requires-clause-group
next_within-requires-clause-group c =
    (here c.args.ranges.now c.args.c c.loop-span.span-index c.loop-span-test.true c.loop-span.invariant).groups.0

pub returns-in-Some : goal.returns-in-Some
returns-in-Some c =
    let i = c.loop-span.span-index in
    found c.args.ranges.now c.args.c (get_or spans i (0, 0)) (drop (suc i) spans) c.in-Some.next
    (here c.args.ranges.now c.args.c i c.loop-span-test.true c.loop-span.invariant)
    (subst (λ o. NextWithin c.args.ranges.now c.args.c (get_or spans i (0, 0)) o) c.in-Some.is c.next_within.ensures)

pub loop-span-preserved : goal.loop-span-preserved
loop-span-preserved c =
    let i = c.loop-span.span-index in
    rw add-one (passed c.args.ranges.now c.args.c (get_or spans i (0, 0)) (drop (suc i) spans)
    (here c.args.ranges.now c.args.c i c.loop-span-test.true c.loop-span.invariant)
    (subst (λ o. NextWithin c.args.ranges.now c.args.c (get_or spans i (0, 0)) o) c.in_default.is
    c.next_within.ensures))

pub returns : goal.returns
returns c =
    let i = c.loop-span.span-index in
    let over : i ≡ 9 = omega (arith, c.loop-span-test.false, c.loop-span.auto.span-index-end) in
    ended c.args.ranges.now c.args.c
    (subst (λ n. AreLeft c.args.ranges.now c.args.c (drop n spans)) over c.loop-span.invariant)
