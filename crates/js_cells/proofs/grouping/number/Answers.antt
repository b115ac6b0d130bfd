use Rattle.std.proofs.Common.{◌≡◌, ◌∷◌, ◌++◌, [], ◌∙◌, length, ap, sym, append_assoc, length-append, arith}
use Rattle.std.specs.Vec.Iter.{into_iter_items}
use Rattle.js_cells.proofs.Numbering.{numbered_more, numbered_few}
use Rattle.js_cells.proofs.grouping.number.Goals as goal

pub add-requires : goal.add-requires
add-requires c =
    let (vs, e, g) = c.loop-vector.invariant in
    let few = numbered_few vs c.loop-vector.grouped.vectors.keys c.loop-vector.grouped.cells.items g in
    let whole = ap length e in
    omega (arith, few, whole, length-append vs (into_iter_items c.loop-vector.vector-iterator), c.requires)

pub loop-vector-preserved : goal.loop-vector-preserved
loop-vector-preserved c =
    let (vs, e, g) = c.loop-vector.invariant in
    let v = c.in-Some.vector in (
      vs ++ v ∷ [],
      append_assoc vs (v ∷ []) (into_iter_items c.next.new.self)
          ∙ ap (λ z. vs ++ z) (sym c.in-Some.ensures.steps.0) ∙ e,
      numbered_more vs c.loop-vector.grouped.vectors.keys c.add.new.self.vectors.keys v
          c.loop-vector.grouped.cells.items c.add.new.self.cells.items c.in_ok-add.ensures.vectors
          c.in_ok-add.ensures.cells g,
    )
