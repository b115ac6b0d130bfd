-- What runs stand for.
use Rattle.std.specs.Prelude.{List, [], ◌∷◌, ◌++◌}
use Rattle.search.specs.Rounds.{NumberedPlaced}
use Rattle.search.specs.Uses.{repeated}
use Rattle.js_expansion.specs.View.{slot_view}
use Rattle.js_rounds.specs.declared.runs.Run.{Run}

abbrev pub spread : List Run → List NumberedPlaced
spread [] = []
spread (r ∷ rs) = repeated (slot_view r.slot) r.count r.goal ++ spread rs
