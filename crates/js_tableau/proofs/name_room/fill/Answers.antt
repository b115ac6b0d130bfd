-- A leaf holds by the truth of its atom.
use Rattle.std.proofs.Common.{◌+◌, ◌<◌, length, get_or, arith}
use Rattle.std.proofs.lemmas.List.{length-map}
use Rattle.position_laws.proofs.Tables.{is_table-IsTable}
use Rattle.name_laws.proofs.Telling.{leaf-next-right}
use Rattle.js_algebra.specs.View.{places}
use Rattle.js_algebra.specs.declared.node.Pos.{Pos}
use Rattle.js_tableau.proofs.Places.{at-map, inside-at}
use Rattle.js_tableau.proofs.name_room.fill.Goals as goal

pub node-requires : goal.node-requires
node-requires c =
    inside-at (λ (p : Pos). p.0) (length c.args.core.now.positions) c.args.leaves.now c.loop-k.k (record { 0 = 0 })
    c.requires.within c.loop-k-test.true

pub bounds-room-p : goal.bounds-room-p
bounds-room-p c =
    omega (
      arith,
      inside-at (λ (p : Pos). p.0) (length c.args.core.now.positions) c.args.leaves.now c.loop-k.k
          (record { 0 = 0 }) c.requires.within c.loop-k-test.true,
      c.requires.room,
      c.loop-k.auto.room,
    )

pub loop-k-preserved : goal.loop-k-preserved
loop-k-preserved c =
    let T = c.args.core.now.positions in
    let leaves = c.args.leaves.now in
    let k = c.loop-k.k in
    let p : Pos = get_or leaves k (record { 0 = 0 }) in
    let inside : p.0 < length T =
    inside-at (λ (p : Pos). p.0) (length T) leaves k (record { 0 = 0 }) c.requires.within c.loop-k-test.true in
    let room : p.0 < length c.loop-k.room = omega (arith, inside, c.requires.room, c.loop-k.auto.room) in
    let some : 0 < length T = omega (arith, inside) in
    λ truth same.
    leaf-next-right T (is_table-IsTable T c.args.core.now.ranks c.len-length.ensures.table some) truth
    c.loop-k.room (places leaves) c.args.truths.now k (k + 1) p.0 _ _ c.requires.leaves
    (omega (arith, c.loop-k-test.true, length-map leaves (λ (q : Pos). q.0))) (omega arith)
    (at-map (λ (q : Pos). q.0) leaves k (record { 0 = 0 }) c.loop-k-test.true) room
    c.node.ensures.value c.is_leaf_held.ensures same (c.loop-k.invariant truth same)
