-- Each depends only on such as were decided before it.
use Rattle.std.proofs.Common.{◌+◌, ◌<◌, length, get_or, ap, ◌∙◌, arith}
use Rattle.std.proofs.lemmas.List.{length-map}
use Rattle.position_laws.proofs.Tables.{is_table-IsTable}
use Rattle.name_laws.specs.Plans.{is_leaf}
use Rattle.name_laws.proofs.KnownLaws.{asked_named}
use Rattle.name_laws.proofs.Telling.{inner-next-right}
use Rattle.js_algebra.specs.View.{node_view}
use Rattle.js_tableau.specs.NamePlans.{places_of}
use Rattle.js_tableau.specs.declared.name_plan.Ranked.{Ranked}
use Rattle.js_tableau.proofs.Places.{at-map, every-at, inside-at}
use Rattle.js_tableau.proofs.name_room.sweep.Goals as goal
use Rattle.std.proofs.lemmas.Bool.{not-true}
use Rattle.js_doc.proofs.NumbersAbove.{every-more}

none : Ranked
none = record { rank = 0; pos = record { 0 = 0 } }

pub node-requires : goal.node-requires
unfolding none
node-requires c =
    inside-at (λ (r : Ranked). r.pos.0) (length c.args.core.now.positions) c.args.inner.now c.loop-r.r-index none
    c.requires.within c.loop-r-test.true

pub is_met-is_held-requires-clause-inner : goal.is_met-is_held-requires-clause-inner
unfolding none
is_met-is_held-requires-clause-inner c =
    ap is_leaf c.node.ensures.value
    ∙ not-true _ (every-at (λ (r : Ranked). r.pos.0) _ c.args.inner.now c.loop-r.r-index none c.requires.inner
    c.loop-r-test.true)

pub is_met-is_held-requires-clause-places : goal.is_met-is_held-requires-clause-places
is_met-is_held-requires-clause-places c =
    every-more (length c.args.core.now.positions) (length c.loop-r.room) _
    (omega (arith, c.requires.room, c.loop-r.auto.room))
    (asked_named (length c.args.core.now.positions) (node_view c.node.result.now) c.node.ensures.named)

pub bounds-room-r : goal.bounds-room-r
unfolding none
bounds-room-r c =
    omega (
      arith,
      inside-at (λ (r : Ranked). r.pos.0) (length c.args.core.now.positions) c.args.inner.now
          c.loop-r.r-index none c.requires.within c.loop-r-test.true,
      c.requires.room,
      c.loop-r.auto.room,
    )

pub loop-r-preserved : goal.loop-r-preserved
unfolding none
loop-r-preserved c =
    let T = c.args.core.now.positions in
    let inner = c.args.inner.now in
    let i = c.loop-r.r-index in
    let r : Ranked = get_or inner i none in
    let inside : r.pos.0 < length T =
    inside-at (λ (r : Ranked). r.pos.0) (length T) inner i none c.requires.within c.loop-r-test.true in
    let room : r.pos.0 < length c.loop-r.room = omega (arith, inside, c.requires.room, c.loop-r.auto.room) in
    let some : 0 < length T = omega (arith, inside) in
    λ truth seen earlier right.
    inner-next-right T (is_table-IsTable T c.args.core.now.ranks c.len-length.ensures.table some) truth
    c.loop-r.room seen (places_of inner) i (i + 1) r.pos.0 _ _ earlier
    (omega (arith, c.loop-r-test.true, length-map inner (λ (r : Ranked). r.pos.0))) (omega arith)
    (at-map (λ (r : Ranked). r.pos.0) inner i none c.loop-r-test.true) room
    c.node.ensures.value (c.is_met-is_held.ensures truth) (c.loop-r.invariant truth seen earlier right)
