use Rattle.std.proofs.Common.{rules, ◌≡◌, [], sym, ap, subst, ◌∙◌}
use Rattle.std.specs.BinaryHeap.{heap_items}
use Rattle.js_valid.specs.PendingPlaces.{rising}
use Rattle.js_valid.proofs.PendingLaws.{Left, Rises, fewer-popped, left-done, left-first, left-popped, no_items, rises-rising, rising-none}
use Rattle.js_valid.proofs.pending.Pending.pop.Goals as goal

pub returns-in_err-place : goal.returns-in_err-place
returns-in_err-place c =
    let none : c.args.self.now ≡ [] =
    sym c.self.view_is ∙ ap rising (no_items _ _ c.self.inside.places.data.ok.0 c.in_err-place.ensures.none)
    ∙ rising-none in
    search (rules, none)

pub loop-self-init : goal.loop-self-init
loop-self-init c =
    subst (λ ks. Left ks c.in_ok-place.place (heap_items c.pop.new.self)) c.self.view_is
    (left-first (heap_items c.self.inside.places) c.in_ok-place.place (heap_items c.pop.new.self) c.self.invariant
    c.in_ok-place.ensures.heap_order c.in_ok-place.ensures.permutation)

pub is_top-requires-clause-heap : goal.is_top-requires-clause-heap
is_top-requires-clause-heap c = c.loop-self.invariant.heap

pub is_top-requires-clause-most : goal.is_top-requires-clause-most
is_top-requires-clause-most c = c.loop-self.invariant.most

pub loop-self-preserved : goal.loop-self-preserved
loop-self-preserved c =
    left-popped c.args.self.now c.in_ok-place.place (heap_items c.loop-self.self-inside.places)
    (heap_items c.pop-in-loop-self.new.self) c.pop-in-loop-self.result c.loop-self.self-inside.places.data.len
    c.loop-self.invariant (sym c.is_top.ensures ∙ c.loop-self-test.true)
    c.loop-self.self-inside.places.data.ok.0 c.pop-in-loop-self.ensures.none
    c.pop-in-loop-self.ensures.heap_order c.pop-in-loop-self.ensures.permutation

pub loop-self-smaller : goal.loop-self-smaller
loop-self-smaller c =
    fewer-popped c.in_ok-place.place (heap_items c.loop-self.self-inside.places) c.pop-in-loop-self.result
    c.loop-self.self-inside.places.data.len c.pop-in-loop-self.new.self.data.len
    (sym c.is_top.ensures ∙ c.loop-self-test.true) c.loop-self.self-inside.places.data.ok.0
    c.pop-in-loop-self.ensures.none c.pop-in-loop-self.ensures.len

pub returns : goal.returns
returns c =
    left-done c.args.self.now c.in_ok-place.place (heap_items c.loop-self.self-inside.places)
    (subst Rises c.self.view_is (rises-rising (heap_items c.self.inside.places))) c.loop-self.invariant
    (sym c.is_top.ensures ∙ c.loop-self-test.false)
