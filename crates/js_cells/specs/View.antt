-- The cells that code's cells stand for.
use Rattle.std.specs.Prelude.{map}
use Rattle.word_states.specs.Classes.{characters}
use Rattle.alternatives.specs.Limit.{most_words}
use Rattle.finders.specs.WordsFound.{far}
use Rattle.cells.specs.Cells as C
use Rattle.cells.specs.Cells.{cells}
use Rattle.js_algebra.specs.View.{signed_view}
use Rattle.js_automaton.specs.AutomatonView.{rows_of}
use Rattle.js_cells.specs.declared.name_cells.Cells.{Cells}

abbrev pub cells_view : Cells → C.Cells
cells_view x =
    cells characters far most_words x.core.now.positions (map signed_view x.set.now) (rows_of x.automaton.now)
