-- The edges of one entry more.
use Rattle.std.proofs.Common.{[], ◌++◌, map, ◌<◌, length, get_or, sym, ap, refl, subst, arith}
use Rattle.schemas.specs.Guarded.{targets}
use Rattle.js_guard.specs.Linked.{IsLinked}
use Rattle.js_guard.proofs.Linking.{linked-none, entry-more, zero_list, zeros-length, zeros-at}
use Rattle.js_guard.proofs.Stepping.{target-inside}
use Rattle.js_guard.proofs.reverse.Linked.of.Goals as goal

pub loop-entry-init : goal.loop-entry-init
loop-entry-init c =
    let n = length c.args.edges.now in
    let made = c.in_ok-vec.ensures.items_if_clones_equal (λ y e. e) in
    let none = linked-none n (zero_list c.len.result) (omega (arith, zeros-length c.len.result))
    (λ t. zeros-at c.len.result t 0 refl) in (
      [],
      subst (λ l. IsLinked [] n l c.new.result.items) (sym made)
          (subst (IsLinked [] n (zero_list c.len.result)) (sym c.new.ensures.items) none),
      refl,
    )

pub add_row-requires : goal.add_row-requires
add_row-requires c = λ i h.
    let g = c.args.edges.now in
    let row = c.row.ensures in
    let edge : i < length (targets g c.loop-entry.entry) = omega (arith, ap length row) in
    let inside = target-inside g c.loop-entry.entry i c.requires.closed edge in
    let heads = c.loop-entry.invariant.1.heads in
    omega (arith, ap (λ r. get_or r i 0) row)

pub loop-entry-preserved : goal.loop-entry-preserved
loop-entry-preserved c =
    let g = c.args.edges.now in
    let (L, linked, made) = c.loop-entry.invariant in
    let x = c.loop-entry.entry in
    let now = c.in_ok-add_row.ensures L (length g) linked in (
      L ++ map (λ t. (x, t)) (targets g x),
      subst (λ r. IsLinked (L ++ map (λ t. (x, t)) r) (length g) c.add_row.new.self.last.items
          c.add_row.new.self.edges.items)
          c.row.ensures now,
      entry-more g x L (omega arith) made,
    )
