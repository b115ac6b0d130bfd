-- So many rows.
use Rattle.std.proofs.Common.{◌≡◌, replicate, false}
use Rattle.js_cells.proofs.telling.blank.Given as goal

abbrev pub invariant-loop-row : goal.invariant-loop-row
invariant-loop-row l = l.told.items ≡ replicate l.row (replicate l.literals false)
