-- The cells of a set, of which only what literals say counts, and the words of rows.
use Rattle.std.specs.Prelude.{ℕ, List, [], map, Bool}
use Rattle.goals.specs.Signed.{Signed}
use Rattle.cells.specs.Cells.{Cells}
use Rattle.js_algebra.specs.View.{signed_view}
use Rattle.js_said.specs.Vectors.{vectors_in}
use Rattle.js_check_rows.specs.RowsView.{table_of}
use Rattle.js_check_rows.specs.declared.rows.Rows.{Rows}
use Rattle.js_check_objects.specs.declared.name_cells.NameCells.{NameCells}

-- a word for each row
abbrev pub rows_of : Rows → List (List ℕ)
rows_of rows = (table_of rows).words

-- without the names that they have
abbrev pub plain_cells : List Signed → List (List Bool) → Cells
plain_cells xs vs = record { names = xs; vectors = vs; words = λ c. []; bound = 0 }

abbrev pub cells_in : NameCells → Cells
cells_in x = plain_cells (map signed_view x.names.items) (vectors_in x.vectors.items)
