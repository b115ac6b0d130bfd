-- What holds of every table of pointers.
use Rattle.std.proofs.Common.{◌≡◌, ◌<◌, [], length, get_or, arith}
use Rattle.js_pointers.specs.Table.{AreDistinct}
use Rattle.js_pointers.specs.PointersView.{pointers_of}
use Rattle.js_pointers.specs.declared.pointers.Pointers.{Pointers}

-- the first pointer of a table is the root
pub pointers_of-root : (t : Pointers) → (0 < length (pointers_of t)) × (get_or (pointers_of t) 0 [] ≡ [])
pointers_of-root t = let counted = t.table.counted in (omega (arith, counted), t.table.root)

pub pointers_of-distinct : (t : Pointers) → AreDistinct (pointers_of t)
pointers_of-distinct t = t.table.distinct
