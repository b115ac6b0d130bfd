-- The vectors before are numbered.
use Rattle.std.proofs.Common.{◌≡◌, ◌++◌, Bool, List}
use Rattle.std.specs.Vec.Iter.{into_iter_items}
use Rattle.js_cells.proofs.Numbering.{AreNumbered}
use Rattle.js_cells.proofs.grouping.number.Given as goal

abbrev pub invariant-loop-vector : goal.invariant-loop-vector
invariant-loop-vector l =
    (vs : List (List Bool)) × (vs ++ into_iter_items l.vector-iterator ≡ l.fn.told.items)
    × AreNumbered vs l.grouped.vectors.keys l.grouped.cells.items
