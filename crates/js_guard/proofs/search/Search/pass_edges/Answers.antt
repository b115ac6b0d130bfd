-- One edge more is passed.
use Rattle.std.proofs.Common.{◌<◌, length, get_or, ap, ◌∙◌, refl, arith}
use Rattle.schemas.specs.Guarded.{targets}
use Rattle.js_guard.specs.Searching.{at}
use Rattle.js_guard.proofs.Stepping.{target-inside, turn-inside, turn-row, passes, stops, edges-passed}
use Rattle.js_guard.proofs.search.Search.pass_edges.Goals as goal

pub row-row-requires : goal.row-row-requires
row-row-requires c =
    let s = c.args.self.now in
    turn-inside c.args.edges.now s s.path.items c.args.turn c.requires.search c.index.result.now c.index.ensures

pub pass-requires : goal.pass-requires
pass-requires c =
    let g = c.args.edges.now in
    let n = c.loop-next.next in
    let row = c.row-row.ensures in
    let edge : n < length (targets g c.index.result.now) = omega (arith, ap length row) in
    let marked = c.loop-next.invariant.search.marked in
    omega (arith, target-inside g c.index.result.now n c.requires.closed edge, ap (λ r. get_or r n 0) row)

pub loop-next-preserved : goal.loop-next-preserved
loop-next-preserved c =
    let s = c.args.self.now in
    let g = c.args.edges.now in
    let now = c.loop-next.self in
    let kept = c.loop-next.invariant in
    let p = c.args.turn.place in
    let n = c.loop-next.next in
    let row = turn-row g s s.path.items c.args.turn c.requires.search c.index.result.now c.row-row.result.now
    now.opened.items c.index.ensures c.row-row.ensures (ap (λ o. o.items) kept.opened) in
    let edge : n < length (targets g (at now.opened.items p)) = omega (arith, ap length row) in
    let on = passes g now c.pass.new.self s.path.items p n kept.search edge (get_or c.row-row.result.now n 0)
    c.pass.result (ap (λ r. get_or r n 0) row) c.if-not-pass.false c.pass.ensures in
    record {
      marks = on.marks ∙ kept.marks;
      opened = on.opened ∙ kept.opened;
      path = on.path ∙ kept.path;
      search = on.search;
    }

pub returns-then-not-pass : goal.returns-then-not-pass
returns-then-not-pass c =
    let s = c.args.self.now in
    let g = c.args.edges.now in
    let now = c.loop-next.self in
    let kept = c.loop-next.invariant in
    let p = c.args.turn.place in
    let n = c.loop-next.next in
    let row = turn-row g s s.path.items c.args.turn c.requires.search c.index.result.now c.row-row.result.now
    now.opened.items c.index.ensures c.row-row.ensures (ap (λ o. o.items) kept.opened) in
    let edge : n < length (targets g (at now.opened.items p)) = omega (arith, ap length row) in
    let end = stops g now c.pass.new.self s.path.items p n kept.search edge (get_or c.row-row.result.now n 0)
    c.pass.result (ap (λ r. get_or r n 0) row) c.if-not-pass.true c.pass.ensures in
    edges-passed g s now c.pass.new.self p n kept.marks kept.opened kept.path kept.search end.1 (λ _. end.0)

pub returns : goal.returns
returns c =
    let s = c.args.self.now in
    let g = c.args.edges.now in
    let now = c.loop-next.self in
    let kept = c.loop-next.invariant in
    let p = c.args.turn.place in
    let n = c.loop-next.next in
    let row = turn-row g s s.path.items c.args.turn c.requires.search c.index.result.now c.row-row.result.now
    now.opened.items c.index.ensures c.row-row.ensures (ap (λ o. o.items) kept.opened) in
    edges-passed g s now now p n kept.marks kept.opened kept.path kept.search refl
    (λ edge. absurd (let size = ap length row in omega arith))
