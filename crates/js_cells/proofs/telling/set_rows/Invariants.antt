-- At the rows before the flag was written.
use Rattle.std.proofs.Common.{take, nat_eq}
use Rattle.std.specs.List.{list_any}
use Rattle.js_cells.specs.Told.{AreSet}
use Rattle.js_cells.proofs.telling.set_rows.Given as goal

abbrev pub invariant-loop-row : goal.invariant-loop-row
invariant-loop-row l =
    AreSet (λ r. list_any (nat_eq r) (take l.row-index l.rows)) l.flag l.place l.initial.told.items l.told.items
