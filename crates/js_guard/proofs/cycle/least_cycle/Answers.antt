-- Each entry has a next one, which is nearer.
use Rattle.std.proofs.Common.{◌∷◌, ◌++◌, [], ap, ◌∙◌, sym, subst, arith}
use Rattle.js_guard.proofs.Walking.{IsWalk, cycle-inside, nearest-read, some-read, row-within, size-distances, next-inside, some-next, some-first, nearer-next, walk-first, walk-more, walk-end}
use Rattle.js_guard.proofs.cycle.least_cycle.Goals as goal

pub distances_from-requires-clause-first : goal.distances_from-requires-clause-first
distances_from-requires-clause-first c =
    let inside = cycle-inside c.args.edges.now c.args.first c.requires.first.on_cycle in
    let size = c.in_ok-back.ensures.same_length in
    omega arith

pub row-requires : goal.row-requires
row-requires c = cycle-inside c.args.edges.now c.args.first c.requires.first.on_cycle

pub nearest-next-requires-clause-within : goal.nearest-next-requires-clause-within
nearest-next-requires-clause-within c =
    let g = c.args.edges.now in
    let D = c.in_ok-distances.distances.items in
    row-within g D c.deref.result.now c.row.result.now c.args.first c.requires.closed c.deref.ensures.value
    (size-distances g c.in_ok-back.back c.args.first D c.in_ok-back.ensures c.in_ok-distances.ensures) c.row.ensures

pub nearest-next-requires-clause-some : goal.nearest-next-requires-clause-some
nearest-next-requires-clause-some c =
    let g = c.args.edges.now in
    let D = c.in_ok-distances.distances.items in
    some-read D c.deref.result.now c.row.result.now _ c.deref.ensures.value c.row.ensures
    (some-first g c.in_ok-back.back c.args.first D c.in_ok-back.ensures c.in_ok-distances.ensures
    c.requires.first.on_cycle)

pub loop-next-init : goal.loop-next-init
loop-next-init c =
    let g = c.args.edges.now in
    let f = c.args.first in
    let D = c.in_ok-distances.distances.items in
    let next = c.nearest-next.result in
    let near = nearest-read D c.deref.result.now c.row.result.now _ next c.deref.ensures.value c.row.ensures
    c.nearest-next.ensures in
    let begun = c.in_ok-push.ensures.items ∙ ap (λ l. l ++ f ∷ []) c.new-cycle.ensures.items in
    subst (λ l. IsWalk g f D l next) (sym begun)
    (walk-first g c.in_ok-back.back f D c.in_ok-back.ensures c.in_ok-distances.ensures next c.requires.first near)

pub row-requires-in-loop-next : goal.row-requires-in-loop-next
row-requires-in-loop-next c =
    let known = c.loop-next.invariant.known in
    next-inside c.args.edges.now c.in_ok-back.back c.args.first c.in_ok-distances.distances.items c.in_ok-back.ensures
    c.in_ok-distances.ensures c.loop-next.next known.0 known.1

pub nearest-next-requires-in-loop-next-clause-within :
    goal.nearest-next-requires-in-loop-next-clause-within
nearest-next-requires-in-loop-next-clause-within c =
    let g = c.args.edges.now in
    let D = c.in_ok-distances.distances.items in
    row-within g D c.deref-in-loop-next.result.now c.row-in-loop-next.result.now c.loop-next.next c.requires.closed
    c.deref-in-loop-next.ensures.value
    (size-distances g c.in_ok-back.back c.args.first D c.in_ok-back.ensures c.in_ok-distances.ensures)
    c.row-in-loop-next.ensures

pub nearest-next-requires-in-loop-next-clause-some :
    goal.nearest-next-requires-in-loop-next-clause-some
nearest-next-requires-in-loop-next-clause-some c =
    let g = c.args.edges.now in
    let D = c.in_ok-distances.distances.items in
    let known = c.loop-next.invariant.known in
    let (z, e, among, has, less) =
    some-next g c.in_ok-back.back c.args.first D c.in_ok-back.ensures c.in_ok-distances.ensures c.loop-next.next known.0
    c.loop-next-test.true known.1 in
    some-read D c.deref-in-loop-next.result.now c.row-in-loop-next.result.now _ c.deref-in-loop-next.ensures.value
    c.row-in-loop-next.ensures (z, e, among, has)

pub loop-next-smaller : goal.loop-next-smaller
loop-next-smaller c =
    let g = c.args.edges.now in
    let D = c.in_ok-distances.distances.items in
    let known = c.loop-next.invariant.known in
    let next = c.nearest-next-in-loop-next.result in
    let near = nearest-read D c.deref-in-loop-next.result.now c.row-in-loop-next.result.now _ next
    c.deref-in-loop-next.ensures.value c.row-in-loop-next.ensures c.nearest-next-in-loop-next.ensures in
    nearer-next g c.in_ok-back.back c.args.first D c.in_ok-back.ensures c.in_ok-distances.ensures c.loop-next.next
    known.0
    next c.loop-next-test.true known.1 near

pub loop-next-preserved : goal.loop-next-preserved
loop-next-preserved c =
    let g = c.args.edges.now in
    let f = c.args.first in
    let D = c.in_ok-distances.distances.items in
    let next = c.nearest-next-in-loop-next.result in
    let near = nearest-read D c.deref-in-loop-next.result.now c.row-in-loop-next.result.now _ next
    c.deref-in-loop-next.ensures.value c.row-in-loop-next.ensures c.nearest-next-in-loop-next.ensures in
    subst (λ l. IsWalk g f D l next) (sym c.in_ok-push-2.ensures.items)
    (walk-more g c.in_ok-back.back f D c.in_ok-back.ensures c.in_ok-distances.ensures c.loop-next.cycle.items
    c.loop-next.next next c.loop-next-test.true c.loop-next.invariant near)

pub returns : goal.returns
returns c =
    walk-end c.args.edges.now c.in_ok-back.back c.args.first c.in_ok-distances.distances.items c.in_ok-back.ensures
    c.in_ok-distances.ensures c.loop-next.cycle.items c.loop-next.next c.loop-next-test.false c.loop-next.invariant
